-- Two results that a promise of this crate allows are equal, with what they leave in the buffer. The contracts are cited as they stand.
-- Assumes nothing.
use Rattle.std.proofs.Common.{◌≡◌}
use Rattle.port_digits.proofs.One.{one_paper}
use Rattle.port_text.proofs.report.put_report.Reads as put-report-reads
use Rattle.port_text.proofs.say.put_line.Reads as put-line-reads
use Rattle.port_text.proofs.say.put_numbered.Reads as put-numbered-reads
use Rattle.port_text.proofs.say.put_listed.Reads as put-listed-reads
use Rattle.port_text.proofs.say.put_refused.Reads as put-refused-reads
use Rattle.port_text.proofs.say.put_reply.Reads as put-reply-reads

-- `put_report` leaves the same buffer and answers the same place.
pub one_put_report : (κs : _) (a : _) (r s : _) (e f : _) → put-report-reads.Learnt κs a r e → put-report-reads.Learnt κs a s f
    → (e.1.1.1.1.0.now ≡ f.1.1.1.1.0.now) × (r ≡ s)
one_put_report κs a r s e f p q = one_paper p q

-- So does `put_line`.
pub one_put_line : (κs : _) (a : _) (r s : _) (e f : _) → put-line-reads.Learnt κs a r e → put-line-reads.Learnt κs a s f
    → (e.0.now ≡ f.0.now) × (r ≡ s)
one_put_line κs a r s e f p q = one_paper p q

-- So does `put_numbered`.
pub one_put_numbered : (κs : _) (a : _) (r s : _) (e f : _) → put-numbered-reads.Learnt κs a r e → put-numbered-reads.Learnt κs a s f
    → (e.0.now ≡ f.0.now) × (r ≡ s)
one_put_numbered κs a r s e f p q = one_paper p q

-- So does `put_listed`.
pub one_put_listed : (κs : _) (a : _) (r s : _) (e f : _) → put-listed-reads.Learnt κs a r e → put-listed-reads.Learnt κs a s f
    → (e.0.now ≡ f.0.now) × (r ≡ s)
one_put_listed κs a r s e f p q = one_paper p q

-- So does `put_refused`.
pub one_put_refused : (κs : _) (a : _) (r s : _) (e f : _) → put-refused-reads.Learnt κs a r e → put-refused-reads.Learnt κs a s f
    → (e.0.now ≡ f.0.now) × (r ≡ s)
one_put_refused κs a r s e f p q = one_paper p q

-- So does `put_reply`.
pub one_put_reply : (κs : _) (a : _) (r s : _) (e f : _) → put-reply-reads.Learnt κs a r e → put-reply-reads.Learnt κs a s f
    → (e.0.now ≡ f.0.now) × (r ≡ s)
one_put_reply κs a r s e f p q = one_paper p q
