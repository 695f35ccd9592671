-- An input that comes piece by piece prints what it prints as a whole, wherever it is cut. Assumes nothing.
use Rattle.std.proofs.Common.{ℕ, suc, ◌<◌, ◌≤◌, ◌≡◌, refl, sym, ◌∙◌, ap, Bool, true, false, cond, List, [], ◌∷◌, ◌++◌, append-nil, append_assoc, arith, eqb-true, ne_eqb, lt-ltb, le-ltb, ltb-true, ltb-false, eqb, ltb, length, length-append}
use Rattle.port_digits.specs.Marks.{newline}
use Rattle.port_digits.specs.Cut.{text_before, text_after, has}
use Rattle.port_digits.proofs.Cutting.{lacks_joined}
use Rattle.port_run.proofs.Lines.{lines_some, lines_on, lines_last, first_holds}
use Rattle.model.specs.Calls.{start}
use Rattle.port_line.specs.Meaning.{State, state, fresh_setup, Step, meaning}
use Rattle.port_text.specs.Report.{refused_text}
use Rattle.port_run.specs.Printed.{text_lines, longest, line_in, printed_from, printed}
use Rattle.port_run.specs.Fed.{Feeding, feeding, unfed, Fed, fed_with, stop_text, worked, byte_fed, fed, part_fed, end_said}

-- ---- more bytes

-- what bytes come to, and then further ones
abbrev pub onward : ℕ → Fed → List ℕ → Fed
onward room x t = let y = fed room x.next t in fed_with (x.said ++ y.said) y.next

-- Feeding a piece and then the rest prints what feeding both does, and leaves the same.
pub fed_joined : (room : ℕ) (f : Feeding) (t u : List ℕ) → fed room f (t ++ u) ≡ onward room (fed room f t) u
unfolding fed
fed_joined room f [] u = refl
fed_joined room f (c ∷ t) u =
    let x = byte_fed room f c in
    let y = fed room x.next t in
    rw (fed_joined room x.next t u, append_assoc x.said y.said (fed room y.next u).said)

-- after a refusal nothing is taken
pub fed_stopped : (room : ℕ) (f : Feeding) (t : List ℕ) → eqb f.refusal 0 ≡ false → fed room f t ≡ fed_with [] f
unfolding fed
fed_stopped room f [] e = refl
fed_stopped room f (c ∷ t) e = rw (e, fed_stopped room f t e)

-- ---- a line for which there is no room

-- it is refused, whatever it says
pub worked_over : (room : ℕ) (l : List ℕ) (s : State) → room < length l → worked room l s ≡ fed_with (refused_text 7) (feeding s [] 7)
unfolding worked meaning
worked_over room l s h = rw (lt-ltb room (length l) h)

-- and nothing is taken after it
over_onward : (room : ℕ) (l : List ℕ) (s : State) (t : List ℕ) → room < length l
    → onward room (worked room l s) t ≡ fed_with (refused_text 7) (feeding s [] 7)
over_onward room l s t h = rw (worked_over room l s h, fed_stopped room (feeding s [] 7) t refl, append-nil (refused_text 7))

-- ---- the next part of a piece

module _ (room : ℕ) (s : State) where
  -- up to the first newline, and then the rest
  abbrev parted : List ℕ → List ℕ → Fed
  parted l t = onward room (part_fed room (feeding s l 0) (text_before newline t) (has newline t)) (text_after newline t)

  -- without room for a line it is the same whether it ends
  part_over : (l t u : List ℕ) (ends : Bool) → room < length (l ++ t)
      → onward room (part_fed room (feeding s l 0) t ends) u ≡ fed_with (refused_text 7) (feeding s [] 7)
  part_over l t u true h = over_onward room (l ++ t) s u h
  part_over l t u false h = rw (lt-ltb room (length (l ++ t)) h) (over_onward room (l ++ t) s u h)

  part_running : (l t : List ℕ) → length l ≤ room → fed room (feeding s l 0) t ≡ parted l t
  unfolding fed text_before text_after has
  part_running l [] h = rw (append-nil l, le-ltb room (length l) h)
  part_running l (c ∷ t) h = go (eqb c newline) (ltb room (length m)) refl (part_running m t)
    where
      m : List ℕ
      m = l ++ (c ∷ [])

      go : (b o : Bool) → ltb room (length m) ≡ o → (length m ≤ room → fed room (feeding s m 0) t ≡ parted m t)
          → onward room (cond b (worked room l s) (cond o (worked room m s) (fed_with [] (feeding s m 0)))) t
          ≡ onward room (part_fed room (feeding s l 0) (cond b [] (c ∷ text_before newline t)) (cond b true (has newline t)))
          (cond b t (text_after newline t))
      go true o e next = rw (append-nil l)
      go false true e next =
          let k : room < length m = ltb-true room (length m) e in
          let n = length-append l (c ∷ text_before newline t) in
          over_onward room m s t k
          ∙ sym (part_over l (c ∷ text_before newline t) (text_after newline t) (has newline t) (omega (arith, k, n, length-append l (c ∷ []))))
      go false false e next = rw (← append_assoc l (c ∷ []) (text_before newline t)) (next (ltb-false room (length m) e))

-- A piece goes part by part: up to the first newline, which ends a line, or to its end.
pub part_next : (room : ℕ) (f : Feeding) (t : List ℕ) → length f.line ≤ room
    → fed room f t ≡ onward room (part_fed room f (text_before newline t) (has newline t)) (text_after newline t)
part_next room f t h = go f.refusal (eqb f.refusal 0) refl
  where
    s : State
    s = f.state

    l : List ℕ
    l = f.line

    go : (n : ℕ) (b : Bool) → eqb n 0 ≡ b
        → fed room (feeding s l n) t
        ≡ onward room (part_fed room (feeding s l n) (text_before newline t) (has newline t)) (text_after newline t)
    go n true e = rw (eqb-true n 0 e) (part_running room s l t h)
    go n false e = rw (fed_stopped room (feeding s l n) t e, e, fed_stopped room (feeding s l n) (text_after newline t) e)

-- ---- the whole input

-- a line without a newline has none with another byte
lacks_byte : (l : List ℕ) (c : ℕ) → has newline l ≡ false → eqb c newline ≡ false → has newline (l ++ (c ∷ [])) ≡ false
unfolding has
lacks_byte l c none e = lacks_joined newline l (c ∷ []) none (rw e)

-- of a line for which there is no room the number of the refusal is printed, and nothing of the rest
long_refused : (room : ℕ) (l t : List ℕ) (s : State) → has newline l ≡ false → room < length l
    → printed_from room (text_lines (l ++ t)) s ≡ refused_text 7
unfolding printed_from meaning
long_refused room l t s none h =
    let n = first_holds l t none in
    let some : 0 < length (l ++ t) = omega (arith, length-append l t) in
    rw (lines_some (l ++ t) some, lt-ltb room (length (text_before newline (l ++ t))) (omega (arith, h, n)))

module _ (room : ℕ) where
  -- what is printed of the rest of an input, byte by byte, after these bytes
  abbrev printed_by : Fed → List ℕ
  printed_by x = x.said ++ end_said room x.next

  -- a line, and then the rest
  line_printed : (s : State) (l t : List ℕ)
      → ((s : State) → printed_from room (text_lines t) s ≡ printed_by (fed room (feeding s [] 0) t))
      → printed_from room (l ∷ text_lines t) s ≡ printed_by (onward room (worked room l s) t)
  unfolding printed_from worked end_said
  line_printed s l t next = go (meaning (line_in room l) s).refusal refl (eqb (meaning (line_in room l) s).refusal 0) refl
    where
      x : Step
      x = meaning (line_in room l) s

      go : (n : ℕ) → x.refusal ≡ n → (b : Bool) → eqb n 0 ≡ b
          → x.said ++ cond (eqb n 0) (printed_from room (text_lines t) x.next) (refused_text n)
          ≡ printed_by (onward room (fed_with (x.said ++ stop_text n) (feeding x.next [] n)) t)
      go n k true e =
          let y = fed room (feeding x.next [] 0) t in
          rw (eqb-true n 0 e, append-nil x.said, append_assoc x.said y.said (end_said room y.next))
          (ap (λ (z : List ℕ). x.said ++ z) (next x.next))
      go n k false e =
          rw (e, fed_stopped room (feeding x.next [] n) t e, append-nil (x.said ++ refused_text n), e, append-nil (x.said ++ refused_text n))

  -- the last line, if it lacks its newline
  last_printed : (s : State) (l : List ℕ) → has newline l ≡ false → printed_from room (text_lines l) s ≡ end_said room (feeding s l 0)
  unfolding printed_from text_lines worked end_said fed
  last_printed s [] none = refl
  last_printed s (c ∷ l) none =
      let some : eqb (suc (length l)) 0 ≡ false = ne_eqb (suc (length l)) 0 (λ e. omega (arith, e)) in
      rw (lines_last c l none, some) (line_printed s (c ∷ l) [] (λ z. refl) ∙ rw (append-nil (worked room (c ∷ l) s).said))

  rest_printed : (s : State) (l t : List ℕ) → has newline l ≡ false → length l ≤ room
      → printed_from room (text_lines (l ++ t)) s ≡ printed_by (fed room (feeding s l 0) t)
  unfolding fed end_said has
  rest_printed s l [] none h = rw (append-nil l) (last_printed s l none)
  rest_printed s l (c ∷ t) none h =
      go (eqb c newline) refl (ltb room (length m)) refl (λ z. rest_printed z [] t refl (omega arith)) (rest_printed s m t)
    where
      m : List ℕ
      m = l ++ (c ∷ [])

      go : (b : Bool) → eqb c newline ≡ b → (o : Bool) → ltb room (length m) ≡ o
          → ((z : State) → printed_from room (text_lines t) z ≡ printed_by (fed room (feeding z [] 0) t))
          → (has newline m ≡ false → length m ≤ room → printed_from room (text_lines (m ++ t)) s ≡ printed_by (fed room (feeding s m 0) t))
          → printed_from room (text_lines (l ++ c ∷ t)) s
          ≡ printed_by (onward room (cond b (worked room l s) (cond o (worked room m s) (fed_with [] (feeding s m 0)))) t)
      go true e o k new next = rw (eqb-true c newline e, lines_on l t none) (line_printed s l t new)
      go false e true k new next =
          let over : room < length m = ltb-true room (length m) k in
          rw (← append_assoc l (c ∷ []) t, long_refused room m t s (lacks_byte l c none e) over)
          (sym (append-nil (refused_text 7)) ∙ ap printed_by (sym (over_onward room m s t over)))
      go false e false k new next =
          rw (← append_assoc l (c ∷ []) t) (next (lacks_byte l c none e) (ltb-false room (length m) k))

-- What is printed of an input is what is printed of its bytes, one after the other, and at its end.
pub printed_fed : (t : List ℕ) → printed t ≡ (let x = fed longest unfed t in x.said ++ end_said longest x.next)
unfolding printed unfed has
printed_fed t = rest_printed longest (state fresh_setup start) [] t refl (omega arith)

-- ---- an input in pieces

-- the pieces joined
unfoldable pub joined : List (List ℕ) → List ℕ
joined [] = []
joined (p ∷ ps) = p ++ joined ps

-- what is printed of pieces, one after the other, and at the end of the last
unfoldable pub pieces_said : ℕ → Feeding → List (List ℕ) → List ℕ
pieces_said room f [] = end_said room f
pieces_said room f (p ∷ ps) = let x = fed room f p in x.said ++ pieces_said room x.next ps

pieces_fed : (room : ℕ) (f : Feeding) (ps : List (List ℕ))
    → pieces_said room f ps ≡ (let x = fed room f (joined ps) in x.said ++ end_said room x.next)
unfolding fed end_said pieces_said joined
pieces_fed room f [] = refl
pieces_fed room f (p ∷ ps) =
    let x = fed room f p in
    let y = fed room x.next (joined ps) in
    rw (fed_joined room f p (joined ps), pieces_fed room x.next ps, append_assoc x.said y.said (end_said room y.next))

-- Reading in pieces of any sizes prints what is printed of the whole input.
pub pieces_printed : (ps : List (List ℕ)) → pieces_said longest unfed ps ≡ printed (joined ps)
pieces_printed ps = pieces_fed longest unfed ps ∙ sym (printed_fed (joined ps))
