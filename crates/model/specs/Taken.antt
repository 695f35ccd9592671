-- Demand 2: "A slave frame is taken exactly when it is sound and answers a master frame of one of our open sink ports", said of one event,
-- whatever controller and areas hold. Assumes nothing.
use Rattle.std.specs.Prelude.{ℕ, ◌≡◌, ◌⊎◌, Bool, true, false, ◌&&◌, length}
use Rattle.std.specs.Prelude.{Some}
use Rattle.frames.specs.declared.Hearing.{Hearing}
use Rattle.frames.specs.Hearing.{words_of}
use Rattle.frames.specs.Judge.{judged_slave, is_sound}
use Rattle.model.specs.declared.Controller.{Controller}
use Rattle.model.specs.declared.Words.{Words}
use Rattle.model.specs.declared.Faults.{Faults}
use Rattle.model.specs.Layout.{Areas, port_at}
use Rattle.model.specs.Ports.{code_of, Standing, standing, marked_words, with_age, Effect, untouched, fill, mark}
use Rattle.model.specs.Lines.{trusted}
use Rattle.model.specs.Event.{waits_for}
use Rattle.model.specs.Past.{is_slave}

-- the trusted line heard a slave frame that is sound for the master word w, and w is waited for
abbrev pub answers_now : Controller → Hearing → Hearing → ℕ → Bool
answers_now c a b w =
    let h = trusted c.lines a b in
    is_slave h.kind && waits_for c.exchange w && is_sound (judged_slave (code_of w) h)

-- an effect that changes status bits alone
pub data Gentle : Effect → Type 0 where
  still : Gentle untouched
  marks : {p : ℕ} {x : Faults} → Gentle (mark p x)

-- n is m but for status bits, and for what f leaves out of port words: index table and pages are the same, and in what f keeps of each
-- port's words only the status bits may differ
pub record ButStatusIn (f : Words → Words) (m n : Areas) : Type 0 where
  pub index : n.index ≡ m.index
  pub page0 : n.page0 ≡ m.page0
  pub page1 : n.page1 ≡ m.page1
  pub ports : (p : ℕ) → (f (port_at n p) ≡ f (port_at m p)) ⊎ ((x : Faults) × (f (port_at n p) ≡ marked_words (f (port_at m p)) x))

-- n is m but for status bits
abbrev pub OnlyStatus : Areas → Areas → Type 0
OnlyStatus m n = ButStatusIn (λ w. w) m n

-- port words whatever their age
abbrev pub ageless : Words → Words
ageless w = with_age 0 w

-- n is m but for ages
pub record ButAges (m n : Areas) : Type 0 where
  pub index : n.index ≡ m.index
  pub long : length n.ports ≡ length m.ports
  pub ports : (p : ℕ) → ageless (port_at n p) ≡ ageless (port_at m p)
  pub page0 : n.page0 ≡ m.page0
  pub page1 : n.page1 ≡ m.page1

-- n is m but for status bits and ages
abbrev pub StatusAndAges : Areas → Areas → Type 0
StatusAndAges m n = ButStatusIn ageless m n

-- What an event that heard h does, if f tells the master words that it answers soundly: it fills the open sink whose word is answered; or no
-- open sink's is, and it changes status bits alone.
pub data Took (f : ℕ → Bool) (m : Areas) (h : Hearing) : Effect → Type 0 where
  takes : (a : ℕ) (v : Standing) → standing m a ≡ Some v → v.sink ≡ true → f v.word ≡ true → Took f m h (fill v.port (words_of h))
  spares : {e : Effect} → Gentle e → ((a : ℕ) (v : Standing) → standing m a ≡ Some v → v.sink ≡ true → f v.word ≡ false) → Took f m h e
