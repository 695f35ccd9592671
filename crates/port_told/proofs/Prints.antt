-- What a program prints that begins, feeds piece after piece, closes and finishes, by the contracts of these calls as they stand: what is printed
-- of the whole input. Assumes nothing.
use Rattle.std.proofs.Common.{ℕ, ◌+◌, ◌<◌, ◌≤◌, ◌≡◌, refl, ◌∙◌, ap, Bool, true, false, List, [], ◌∷◌, ◌++◌, arith, ltb, length, take}
use Rattle.std.proofs.Math.Seq.{sets, length-sets}
use Rattle.port_digits.specs.Read.{cut}
use Rattle.port_digits.specs.Write.{Paper, paper, onto, last_place}
use Rattle.port_digits.proofs.Pasting.{written}
use Rattle.model.specs.Calls.{cleared_areas, start}
use Rattle.model.specs.Layout.{areas, Areas}
use Rattle.areas.specs.Lent.{Slice, MutSlice, ◌&◌}
use Rattle.port_line.specs.Meaning.{state_after}
use Rattle.port_run.specs.declared.Feed.{Feed}
use Rattle.port_run.specs.Printed.{longest, printed}
use Rattle.port_run.specs.Fed.{Feeding, unfed, Fed, fed, last_fed, closing, end_said, rewound, feeding_of, left, Left, left_by}
use Rattle.port_told.specs.Told.{course_of, output_told}
use Rattle.port_run.proofs.Fed.{joined, pieces_said, pieces_printed}
use Rattle.port_run.proofs.Leaving.{put_length, put_behind}
use Rattle.port_told.proofs.Told.{printed_told}
use Rattle.port_run.proofs.pieces.begin.Reads as begin-reads
use Rattle.port_run.proofs.pieces.feed.Reads as feed-reads
use Rattle.port_run.proofs.pieces.rewind.Reads as rewind-reads
use Rattle.port_run.proofs.pieces.close.Reads as close-reads
use Rattle.port_run.proofs.pieces.finish.Reads as finish-reads

-- ---- what stands in a buffer

-- a text that is written from the first place of a buffer on
module _ (o t : List ℕ) (n : ℕ) {k : List ℕ} (short : length o < last_place) (e : paper k n ≡ onto (paper o 0) t) where
  stored : paper k n ≡ paper (sets o 0 t) (cut last_place (0 + length t))
  stored = e ∙ written o 0 t (omega (arith, short)) (omega arith)

  as_long : length k ≡ length o
  as_long = ap (λ (p : Paper). length p.text) stored ∙ length-sets o 0 t

  place : n ≡ cut last_place (0 + length t)
  place = ap (λ (p : Paper). p.at) stored

  -- where the place after it lies in the buffer, or right behind it, there was room for all of it
  had_room : n ≤ length k → 0 + length t ≤ length o
  had_room h = go (ltb last_place (0 + length t)) refl
    where
      go : (b : Bool) → ltb last_place (0 + length t) ≡ b → 0 + length t ≤ length o
      go true z = absurd (let m : n ≡ last_place = place ∙ rw z in omega (arith, m, h, as_long, short))
      go false z = let m : n ≡ 0 + length t = place ∙ rw z in omega (arith, m, h, as_long)

  -- then the first bytes of the buffer are the text
  text_printed : n ≤ length k → take n k ≡ t
  text_printed h = put_behind o t 0 n (omega (arith, short)) (had_room h) e

  -- and where there is room for all of it, the place after it lies there
  place_within : length t ≤ length o → n ≤ length k
  place_within h =
      let room : 0 + length t ≤ length o = omega (arith, h) in
      omega (arith, h, as_long, put_length o t 0 n (omega (arith, short)) room e)

-- ---- a program, call by call

-- the areas and the record before the last call, and what is printed after it
pub data Reports : Areas → Feed → List ℕ → Type 0 where
  finishes : (κs : _) (index ports page0 page1 : Slice) (out : MutSlice) (f : Feed) (r : ℕ) (index' ports' page0' page1' : Slice) (out' : MutSlice) (left : _)
      → finish-reads.Learnt κs (index & ports & page0 & page1 & out & f & tt) r (index' & ports' & page0' & page1' & out' & left)
      → length out.now < last_place → r ≤ length out'.now
      → Reports (areas index.now ports.now page0.now page1.now) f (take r out'.now)

-- the areas, the bytes of the line's buffer and the record before a call; the pieces that are still fed, and what is printed of them and at
-- the end: after each call the first bytes of the buffer, for all of which it had room; then its first place is the next again
pub data Prints : Areas → List ℕ → Feed → List (List ℕ) → List ℕ → Type 0 where
  feeds : (κs : _) (index ports page0 page1 line out : MutSlice) (f : Feed) (piece : Slice) (r : Feed)
      (index' ports' page0' page1' line' out' : MutSlice) (left : _) (g : Feed) (over : _) (ps : List (List ℕ)) (w : List ℕ)
      → feed-reads.Learnt κs (index & ports & page0 & page1 & line & out & f & piece & tt) r
      (index' & ports' & page0' & page1' & line' & out' & left)
      → length out.now < last_place → r.stepped.at ≤ length out'.now
      → rewind-reads.Learnt tt (r & tt) g over
      → Prints (areas index'.now ports'.now page0'.now page1'.now) line'.now g ps w
      → Prints (areas index.now ports.now page0.now page1.now) line.now f (piece.now ∷ ps) (take r.stepped.at out'.now ++ w)
  closes : (κs : _) (index ports page0 page1 line out : MutSlice) (f r : Feed) (index' ports' page0' page1' line' out' : MutSlice) (left : _)
      (g : Feed) (over : _) (w : List ℕ)
      → close-reads.Learnt κs (index & ports & page0 & page1 & line & out & f & tt) r (index' & ports' & page0' & page1' & line' & out' & left)
      → length out.now < last_place → r.stepped.at ≤ length out'.now
      → rewind-reads.Learnt tt (r & tt) g over
      → Reports (areas index'.now ports'.now page0'.now page1'.now) g w
      → Prints (areas index.now ports.now page0.now page1.now) line.now f [] (take r.stepped.at out'.now ++ w)

-- ---- what it prints

-- what the code leaves of bytes that were fed before the first place of its buffer was used
module _ {m : Areas} (l : List ℕ) {k : List ℕ} (o : List ℕ) (f r : Feed) (x : Fed) (e : left m l k r ≡ left_by (paper o f.stepped.at) x)
    (first : f.stepped.at ≡ 0) where
  -- what is said of them is written
  fed_written : paper k r.stepped.at ≡ onto (paper o 0) x.said
  fed_written = ap (λ (y : Left). y.out) e ∙ ap (λ (n : ℕ). onto (paper o n) x.said) first

  -- and things stand as they stand after them
  fed_next : {g : Feed} → g ≡ rewound r → feeding_of m l g ≡ x.next
  fed_next q = ap (feeding_of m l) q ∙ ap (λ (y : Left). y.next) e

-- what is printed last
report_said : {m : Areas} {f : Feed} {w : List ℕ} → Reports m f w → f.stepped.at ≡ 0 → w ≡ closing f.stepped.refusal (state_after m f.stepped)
report_said (finishes κs index ports page0 page1 out f r index' ports' page0' page1' out' left p short h) z =
    let t = closing f.stepped.refusal (state_after (areas index.now ports.now page0.now page1.now) f.stepped) in
    text_printed out.now t r short (p ∙ ap (λ (n : ℕ). onto (paper out.now n) t) z) h

-- what is printed is what is said of the pieces
calls_said : {m : Areas} {l : List ℕ} {f : Feed} {ps : List (List ℕ)} {w : List ℕ} → Prints m l f ps w → f.stepped.at ≡ 0
    → w ≡ pieces_said (length l) (feeding_of m l f) ps
unfolding pieces_said end_said
calls_said (feeds κs index ports page0 page1 line out f piece r index' ports' page0' page1' line' out' left g over ps w p short h q rest) z =
    let x = fed (length line.now) (feeding_of (areas index.now ports.now page0.now page1.now) line.now f) piece.now in
    rw (text_printed out.now x.said r.stepped.at short (fed_written line'.now out.now f r x p.0 z) h)
    (ap (λ (u : List ℕ). x.said ++ u)
    (calls_said rest (ap (λ (y : Feed). y.stepped.at) q)
    ∙ ap (λ (n : ℕ). pieces_said n (feeding_of (areas index'.now ports'.now page0'.now page1'.now) line'.now g) ps) p.1.1
    ∙ ap (λ (y : Feeding). pieces_said (length line.now) y ps) (fed_next line'.now out.now f r x p.0 z q)))
calls_said (closes κs index ports page0 page1 line out f r index' ports' page0' page1' line' out' left g over w p short h q rest) z =
    let x = last_fed (length line.now) (feeding_of (areas index.now ports.now page0.now page1.now) line.now f) in
    rw (text_printed out.now x.said r.stepped.at short (fed_written line'.now out.now f r x p.0 z) h)
    (ap (λ (u : List ℕ). x.said ++ u)
    (report_said rest (ap (λ (y : Feed). y.stepped.at) q)
    ∙ ap (λ (y : Feeding). closing y.refusal y.state) (fed_next line'.now out.now f r x p.0 z q)))

-- A program that begins over cleared areas and a buffer for the longest line prints, whatever the pieces, what is printed of the whole input.
pub calls_print : {m : Areas} {l : List ℕ} {f : Feed} {ps : List (List ℕ)} {w : List ℕ} (κs : _) (a : _) (e : _) → begin-reads.Learnt κs a f e
    → Prints m l f ps w → m ≡ cleared_areas → length l ≡ longest
    → w ≡ printed (joined ps)
unfolding unfed start
calls_print {m} {l} {f} {ps} κs a e b calls cleared room =
    calls_said calls (ap (λ (y : Feed). y.stepped.at) b) ∙ rw (b, cleared, room) (pieces_printed ps)

-- So it prints what the past tells: the replies, and then of each open port its eight lines, or the number of the refusal.
pub calls_told : {m : Areas} {l : List ℕ} {f : Feed} {ps : List (List ℕ)} {w : List ℕ} (κs : _) (a : _) (e : _) → begin-reads.Learnt κs a f e
    → Prints m l f ps w → m ≡ cleared_areas → length l ≡ longest
    → w ≡ output_told (course_of (joined ps))
calls_told {m} {l} {f} {ps} κs a e b calls cleared room = calls_print κs a e b calls cleared room ∙ printed_told (joined ps)

-- ---- what the premises let in: the test that a program makes after a call holds wherever the buffer has room for all that is said

-- after a piece
pub feed_roomy : (κs : _) (index ports page0 page1 line out : MutSlice) (f : Feed) (piece : Slice) (r : Feed)
    (index' ports' page0' page1' line' out' : MutSlice) (left : _)
    → feed-reads.Learnt κs (index & ports & page0 & page1 & line & out & f & piece & tt) r (index' & ports' & page0' & page1' & line' & out' & left)
    → f.stepped.at ≡ 0 → length out.now < last_place
    → length (fed (length line.now) (feeding_of (areas index.now ports.now page0.now page1.now) line.now f) piece.now).said ≤ length out.now
    → r.stepped.at ≤ length out'.now
feed_roomy κs index ports page0 page1 line out f piece r index' ports' page0' page1' line' out' left p z short h =
    let x = fed (length line.now) (feeding_of (areas index.now ports.now page0.now page1.now) line.now f) piece.now in
    place_within out.now x.said r.stepped.at short (fed_written line'.now out.now f r x p.0 z) h

-- at the end of the input
pub close_roomy : (κs : _) (index ports page0 page1 line out : MutSlice) (f r : Feed) (index' ports' page0' page1' line' out' : MutSlice) (left : _)
    → close-reads.Learnt κs (index & ports & page0 & page1 & line & out & f & tt) r (index' & ports' & page0' & page1' & line' & out' & left)
    → f.stepped.at ≡ 0 → length out.now < last_place
    → length (last_fed (length line.now) (feeding_of (areas index.now ports.now page0.now page1.now) line.now f)).said ≤ length out.now
    → r.stepped.at ≤ length out'.now
close_roomy κs index ports page0 page1 line out f r index' ports' page0' page1' line' out' left p z short h =
    let x = last_fed (length line.now) (feeding_of (areas index.now ports.now page0.now page1.now) line.now f) in
    place_within out.now x.said r.stepped.at short (fed_written line'.now out.now f r x p.0 z) h

-- after the report
pub finish_roomy : (κs : _) (index ports page0 page1 : Slice) (out : MutSlice) (f : Feed) (r : ℕ) (index' ports' page0' page1' : Slice) (out' : MutSlice) (left : _)
    → finish-reads.Learnt κs (index & ports & page0 & page1 & out & f & tt) r (index' & ports' & page0' & page1' & out' & left)
    → f.stepped.at ≡ 0 → length out.now < last_place
    → length (closing f.stepped.refusal (state_after (areas index.now ports.now page0.now page1.now) f.stepped)) ≤ length out.now
    → r ≤ length out'.now
finish_roomy κs index ports page0 page1 out f r index' ports' page0' page1' out' left p z short h =
    let t = closing f.stepped.refusal (state_after (areas index.now ports.now page0.now page1.now) f.stepped) in
    place_within out.now t r short (p ∙ ap (λ (n : ℕ). onto (paper out.now n) t) z) h
