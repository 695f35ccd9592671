-- What an accepted call has passed, and that its effect is valid: the free address and port of an opening, the port of the host's
-- other calls, and the sink of a bus event. Assumes nothing.
use Prim.Native.Nat.{ℕ, ◌≤◌, ◌<◌}
use mathlib.Core.Path.{◌≡◌, refl, sym, ◌∙◌, ap}
use mathlib.Core.Bool.{Bool, true, false, cond, not, ◌&&◌, ◌||◌, true≢false}
use mathlib.Core.List.{List}
use Rattle.std.specs.Prelude.{Option, None, Some}
use native.Mathlib.Omega.{arith}
use lib.Dec.{eqb, ltb}
use lib.ListN.{length}
use lib.Seq.{length-take-le}
use borrow.Author.Tests.{eqb-true, eqb-false, ltb-false, ne_eqb, le-leb, not-false}
use Rattle.frames.specs.declared.Hearing.{Hearing}
use Rattle.frames.specs.declared.Judgement.{Judgement}
use Rattle.frames.specs.declared.Wrong.{Wrong}
use Rattle.frames.specs.declared.Judgement.TheVariants.{Sound, Unsound as Bad}
use Rattle.frames.specs.Hearing.{words_of, marked}
use Rattle.frames.specs.Size.{expected_of}
use Rattle.frames.specs.Judge.{counts_right, wrong_of, verdict, judged, judged_for, judged_slave}
use Rattle.frames.proofs.Sizes.{longest}
use Rattle.model.specs.Layout.{Areas, entry, port_at}
use Rattle.model.specs.Ports.{code_of, address_of, has_ports, words_in, size_of, well_formed, seek, Standing, standing_of, standing, fill}
use Rattle.model.specs.Ports.{opened, closed}
use Rattle.model.specs.Event.{World, open_for, port_for, if_sink, sink_for, taken}
use Rattle.model.specs.Calls.{open_out, open_port, close_port, write_port, no_port, out_of_range, bad_entry, is_taken, bad_words, wrong_side}
use Rattle.model.specs.Calls.{wrong_size, refusal}
use Rattle.model.proofs.Shape.{At, Valid, nothing, filling, marking, opening, closing}
use Rattle.model.proofs.Refused.{accepted}

-- ---- tests that did not hold

-- where `or` of two tests does not hold, neither holds
pub neither : (a b : Bool) → (a || b) ≡ false → (a ≡ false) × (b ≡ false)
neither true b e = absurd (true≢false e)
neither false b e = (refl, e)

-- a test that is excused by the first
pub excused : (a b : Bool) → (not a && not b) ≡ false → a ≡ false → b ≡ true
excused true b e f = absurd (true≢false f)
excused false true e f = refl
excused false false e f = absurd (true≢false e)

-- where nothing stands no port v does
pub nowhere : {v : Standing} → None ≡ Some v → ⊥
nowhere e = let z : ◌≡◌ {A = ℕ} 0 1 = cc in omega arith

-- ---- the host's calls

-- the arguments of an opening are in range
pub record InRange (a p f i : ℕ) : Type 0 where
  pub address : a < 4096
  pub some_port : 0 < p
  pub port : p ≤ 255
  pub code : f ≤ 4
  pub interrupt : i ≤ 7

-- an opening whose range test does not hold has its arguments in range
pub open_range : (a p code i : ℕ) → open_out a p code i ≡ false → InRange a p code i
open_range a p code i e =
    let r1 = neither _ _ e in
    let r2 = neither _ _ r1.0 in
    let r3 = neither _ _ r2.0 in
    let r4 = neither _ _ r3.0 in
    let small : a ≤ 4095 = ltb-false 4095 a r4.0 in
    let used : p ≡ 0 → ⊥ = eqb-false p 0 r4.1 in
    record {
      address = omega arith;
      some_port = omega arith;
      port = ltb-false 255 p r3.1;
      code = ltb-false 4 code r2.1;
      interrupt = ltb-false 7 i r1.1;
    }

-- an accepted opening finds address and port free, so what it does to the areas is valid
pub valid_open : (a p code : ℕ) (sink : Bool) (i limit : ℕ) (s : World) → refusal (open_port a p code sink i limit) s ≡ 0
    → Valid s.areas (opened a p code sink i limit)
valid_open a p code sink i limit s e =
    let t = accepted (open_port a p code sink i limit) s e in
    let r = open_range a p code i (t out_of_range) in
    let free = neither _ _ (t is_taken) in
    opening r.address r.some_port r.port r.code r.interrupt (eqb-true _ 0 (not-false _ free.0))
    (eqb-true _ 0 (not-false _ free.1))

-- a port at an address, from what the tests have passed
pub open_at : (m : Areas) (a : ℕ) → (entry m a ≡ 0 → ⊥) → entry m a ≤ 255 → well_formed a (port_at m (entry m a)) ≡ true
    → standing m a ≡ Some (standing_of m (entry m a))
unfolding standing seek
open_at m a n l f = rw (ne_eqb (entry m a) 0 n, le-leb (entry m a) 255 l, f)

-- a call that needs a port finds one
module _ (m : Areas) (a : ℕ) (above : ltb 255 (entry m a) ≡ false) (absent : eqb (entry m a) 0 ≡ false)
    (ill : (not (eqb (entry m a) 0) && not (well_formed a (port_at m (entry m a)))) ≡ false) where
  finds : standing m a ≡ Some (standing_of m (entry m a))
  finds = open_at m a (eqb-false _ 0 absent) (ltb-false 255 _ above) (excused _ _ ill absent)

-- an accepted closing finds the port of the address's entry standing open there
pub found_close : (a : ℕ) (s : World) → refusal (close_port a) s ≡ 0 → standing s.areas a ≡ Some (standing_of s.areas (entry s.areas a))
found_close a s e = let t = accepted (close_port a) s e in finds s.areas a (t bad_entry) (t no_port) (t bad_words)

-- and so does an accepted write
pub found_write : (a : ℕ) (ws : List ℕ) (s : World) → refusal (write_port a ws) s ≡ 0
    → standing s.areas a ≡ Some (standing_of s.areas (entry s.areas a))
found_write a ws s e = let t = accepted (write_port a ws) s e in finds s.areas a (t bad_entry) (t no_port) (t bad_words)

-- what an accepted closing does to the areas is valid
pub valid_close : (a : ℕ) (s : World) → refusal (close_port a) s ≡ 0 → Valid s.areas (closed a (entry s.areas a))
unfolding standing_of
valid_close a s e = closing (record { seen = standing_of s.areas (entry s.areas a); there = found_close a s e; port = refl; word = refl })

-- a write goes to a source, and has its size
pub write_source : (a : ℕ) (ws : List ℕ) (s : World) → refusal (write_port a ws) s ≡ 0 → (standing_of s.areas (entry s.areas a)).sink ≡ false
unfolding standing_of
write_source a ws s e = accepted (write_port a ws) s e wrong_side

-- what an accepted write does is valid: the port stands open, and the words have its size
pub valid_write : (a : ℕ) (ws : List ℕ) (s : World) → refusal (write_port a ws) s ≡ 0 → Valid s.areas (fill (entry s.areas a) ws)
unfolding standing_of
valid_write a ws s e =
    filling (record { seen = standing_of s.areas (entry s.areas a); there = found_write a ws s e; port = refl; word = refl })
    (eqb-true _ _ (not-false _ (accepted (write_port a ws) s e wrong_size)))

-- ---- a bus event

-- the port for a master word stands open at the word's address
pub port_open : (m : Areas) (w : ℕ) (v : Standing) → port_for m w ≡ Some v → (standing m (address_of w) ≡ Some v) × (v.word ≡ w)
unfolding port_for
port_open m w v e = go (has_ports (code_of w)) (standing m (address_of w)) refl e
  where
    same : (o : Standing) (b : Bool) → eqb o.word w ≡ b → cond b (Some o) None ≡ Some v → (Some o ≡ Some v) × (v.word ≡ w)
    same o true eb ec = let eo : o ≡ v = cc in (ec, sym (ap (λ (x : Standing). x.word) eo) ∙ eqb-true _ _ eb)
    same o false eb ec = absurd (nowhere ec)

    go : (b : Bool) (o : Option Standing) → standing m (address_of w) ≡ o → cond b (open_for w o) None ≡ Some v → (o ≡ Some v) × (v.word ≡ w)
    go true None ev ec = absurd (nowhere ec)
    go true (Some o) ev ec = same o (eqb o.word w) refl ec
    go false o ev ec = absurd (nowhere ec)

sink_port_lem : (o : Option Standing) (v : Standing) → if_sink o ≡ Some v → (o ≡ Some v) × (v.sink ≡ true)
sink_port_lem None v e = absurd (nowhere e)
sink_port_lem (Some o) v e = go o.sink refl e
  where
    go : (b : Bool) → o.sink ≡ b → cond b (Some o) None ≡ Some v → (Some o ≡ Some v) × (v.sink ≡ true)
    go true eb ec = let eo : o ≡ v = cc in (ec, sym (ap (λ (x : Standing). x.sink) eo) ∙ eb)
    go false eb ec = absurd (nowhere ec)

-- the sink for a master word: it stands open at the word's address, and has the word
pub record Sink (m : Areas) (w : ℕ) (v : Standing) : Type 0 where
  pub there : standing m (address_of w) ≡ Some v
  pub word : v.word ≡ w
  pub sink : v.sink ≡ true

-- the sink that is found for a master word is open for it in this sense
pub sink_open_lem : (m : Areas) (w : ℕ) (v : Standing) → sink_for m w ≡ Some v → Sink m w v
sink_open_lem m w v e =
    let k = sink_port_lem (port_for m w) v e in
    let o = port_open m w v k.0 in
    record { there = o.0; word = o.1; sink = k.1 }

-- so its port stands open at the word's address, with this word
pub sink_at_lem : (m : Areas) (w : ℕ) (v : Standing) → sink_for m w ≡ Some v → At m (address_of w) v.port w
sink_at_lem m w v e = let k = sink_open_lem m w v e in record { seen = v; there = k.there; port = refl; word = k.word }

-- a sound slave frame has the size of its code
sound_size : (code : ℕ) (h : Hearing) → length h.words ≡ 16 → judged_slave code h ≡ Sound → length (words_of h) ≡ size_of code
unfolding judged_slave judged counts_right words_of size_of
sound_size code h l e = go (expected_of code) refl e
  where
    sized : (n : ℕ) → n ≤ 16 → (b c : Bool) (k : Wrong) → eqb h.size n ≡ b → verdict (marked h) (b && c) k ≡ Sound → length (words_of h) ≡ n
    sized n fits true c k eb ej =
        let s : h.size ≡ n = eqb-true _ _ eb in
        length-take-le h.size h.words (omega arith) ∙ s
    sized n fits false c k eb ej = never (marked h) ej
      where
        never : (b : Bool) → verdict b (false && c) k ≡ Sound → length (words_of h) ≡ n
        never true ej = let z : ◌≡◌ {A = ℕ} 0 1 = cc in omega arith
        never false ej = let z : ◌≡◌ {A = ℕ} 0 1 = cc in omega arith

    go : (x : Option ℕ) → expected_of code ≡ x → judged_for x h ≡ Sound → length (words_of h) ≡ words_in x
    go (Some n) ex ej = sized n (longest code n ex) _ _ (wrong_of (words_of h) h.checks) refl ej
    go None ex ej = let z : ◌≡◌ {A = ℕ} 0 1 = cc in omega arith

-- what a judged slave frame does to the areas is valid
pub valid_taken : (m : Areas) (w : ℕ) (h : Hearing) (j : Judgement) → length h.words ≡ 16 → judged_slave (code_of w) h ≡ j
    → Valid m (taken (sink_for m w) j h)
valid_taken m w h j l e = go (sink_for m w) refl j e
  where
    go : (o : Option Standing) → sink_for m w ≡ o → (j : Judgement) → judged_slave (code_of w) h ≡ j → Valid m (taken o j h)
    go None eo j ej = nothing
    go (Some v) eo Sound ej = filling (sink_at_lem m w v eo) (sound_size (code_of w) h l ej)
    go (Some v) eo (Bad wrong) ej = marking (sink_at_lem m w v eo)
