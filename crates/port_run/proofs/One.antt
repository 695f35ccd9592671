-- Two results that a promise of this crate allows are equal, with what they leave. The contracts are cited as they stand. Assumes nothing.
use Rattle.std.proofs.Common.{ℕ, ◌≤◌, ◌≡◌, sym, ◌∙◌, ap, List, length, take, length-take-le}
use Rattle.port_digits.proofs.One.{one_paper}
use Rattle.model.specs.Layout.{areas, Areas}
use Rattle.port_line.specs.declared.Stepped.{Stepped}
use Rattle.port_run.specs.declared.Feed.{Feed}
use Rattle.port_run.specs.Fed.{Left, left}
use Rattle.port_run.proofs.pieces.begin.Reads as begin-reads
use Rattle.port_run.proofs.pieces.rewind.Reads as rewind-reads
use Rattle.port_run.proofs.pieces.feed.Reads as feed-reads
use Rattle.port_run.proofs.pieces.close.Reads as close-reads
use Rattle.port_run.proofs.pieces.finish.Reads as finish-reads

-- `begin` answers the same record.
pub one_begin : (κs : _) (a : _) (r s : _) (e f : _) → begin-reads.Learnt κs a r e → begin-reads.Learnt κs a s f → r ≡ s
one_begin κs a r s e f p q = p ∙ sym q

-- So does `rewind`.
pub one_rewind : (κs : _) (a : _) (r s : _) (e f : _) → rewind-reads.Learnt κs a r e → rewind-reads.Learnt κs a s f → r ≡ s
one_rewind κs a r s e f p q = p ∙ sym q

-- what the last line left, from what is promised
abbrev line_left : Left → Stepped
line_left x =
    let s = x.next.state in
    record { refusal = x.next.refusal; controller = s.world.controller; setup = s.setup; at = x.out.at }

-- what is left as one record leaves no choice but behind the part of a line in its buffer
one_left : {m k : Areas} (l h : List ℕ) {o q : List ℕ} (r s : Feed) {z : Left} → left m l o r ≡ z → left k h q s ≡ z
    → r.partial ≤ length l → s.partial ≤ length h
    → (r ≡ s) × (m ≡ k) × (take r.partial l ≡ take s.partial h) × (o ≡ q)
one_left {m} {k} l h {o} {q} r s x y i j =
    let e : left m l o r ≡ left k h q s = x ∙ sym y in
    let lines : r.stepped ≡ s.stepped = ap line_left e in
    let part : take r.partial l ≡ take s.partial h = ap (λ (z : Left). z.next.line) e in
    let n : r.partial ≡ s.partial = sym (length-take-le r.partial l i) ∙ ap length part ∙ length-take-le s.partial h j in (
      (λ t. record { stepped = lines t; partial = n t }),
      ap (λ (z : Left). z.next.state.world.areas) e,
      part,
      ap (λ (z : Left). z.out.text) e,
    )

-- `feed` answers the same record and leaves the same areas, the same part of a line and the same output. What lies behind that part in the
-- line's buffer is open: no call reads it.
pub one_feed : (κs : _) (a : _) (r s : _) (e f : _) → feed-reads.Learnt κs a r e → feed-reads.Learnt κs a s f
    → (r ≡ s) × (areas e.0.now e.1.0.now e.1.1.0.now e.1.1.1.0.now ≡ areas f.0.now f.1.0.now f.1.1.0.now f.1.1.1.0.now)
    × (take r.partial e.1.1.1.1.0.now ≡ take s.partial f.1.1.1.1.0.now)
    × (e.1.1.1.1.1.0.now ≡ f.1.1.1.1.1.0.now)
one_feed κs a r s e f p q =
    one_left e.1.1.1.1.0.now f.1.1.1.1.0.now r s p.0 q.0 (rw p.1.1 p.1.0) (rw q.1.1 q.1.0)

-- So does `close`.
pub one_close : (κs : _) (a : _) (r s : _) (e f : _) → close-reads.Learnt κs a r e → close-reads.Learnt κs a s f
    → (r ≡ s) × (areas e.0.now e.1.0.now e.1.1.0.now e.1.1.1.0.now ≡ areas f.0.now f.1.0.now f.1.1.0.now f.1.1.1.0.now)
    × (take r.partial e.1.1.1.1.0.now ≡ take s.partial f.1.1.1.1.0.now)
    × (e.1.1.1.1.1.0.now ≡ f.1.1.1.1.1.0.now)
one_close κs a r s e f p q =
    one_left e.1.1.1.1.0.now f.1.1.1.1.0.now r s p.0 q.0 (rw p.1.1 p.1.0) (rw q.1.1 q.1.0)

-- `finish` leaves the same output and answers the same place.
pub one_finish : (κs : _) (a : _) (r s : _) (e f : _) → finish-reads.Learnt κs a r e → finish-reads.Learnt κs a s f
    → (e.1.1.1.1.0.now ≡ f.1.1.1.1.0.now) × (r ≡ s)
one_finish κs a r s e f p q = one_paper p q
