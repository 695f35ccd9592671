-- Fetching is empty exactly when asking refuses or answers never, or a page has another length, whatever the areas hold: a well formed port
-- of any F-code has a word. Assumes nothing.
use Prim.Native.Nat.{ℕ, zero, suc, ◌≤◌, ◌<◌}
use mathlib.Core.Path.{◌≡◌, refl, sym, ap}
use mathlib.Core.Logic.{◌⊎◌, inl, inr, ◌↔◌}
use mathlib.Core.Bool.{Bool, true, false, cond}
use mathlib.Core.List.{List, []}
use native.Mathlib.Omega.{arith}
use lib.Dec.{eqb}
use lib.ListN.{length}
use borrow.Author.Tests.{eqb-true, ltb-false}
use Rattle.frames.specs.Size.{sizes, expected_of}
use Rattle.model.specs.Answer.{Answer}
use Rattle.model.specs.Answer.{Never, Good, Held, Stale, Refused}
use Rattle.model.specs.Layout.{Areas, pages_fit, entry, port_at, flags_of}
use Rattle.model.specs.Ports.{code_of, size_of, well_formed, valid_words, state_of}
use Rattle.model.specs.Calls.{read_port, bad_entry, no_port, bad_words, fresh_over, port_refusal, asked, ShowsNone, part_for, fetched}
use Rattle.model.proofs.Refused.{accepted}
use Rattle.model.proofs.Accepted.{excused}
use Rattle.model.proofs.Formed.{page_lengths, formed, size_small}
use Rattle.model.proofs.Reading.{no_words_lem}
use Rattle.model.proofs.Replies.{part_size}

-- a port has at least one word
size_some : (code : ℕ) → code ≤ 4 → 0 < size_of code
unfolding size_of expected_of sizes
size_some zero h = omega arith
size_some (suc zero) h = omega arith
size_some (suc (suc zero)) h = omega arith
size_some (suc (suc (suc zero))) h = omega arith
size_some (suc (suc (suc (suc zero)))) h = omega arith
size_some (suc (suc (suc (suc (suc c))))) h = absurd (omega arith)

module _ (m : Areas) (a : ℕ) where
  -- the port's own part of the valid page
  abbrev part : List ℕ
  part = valid_words m (entry m a)

  -- the words of a port that may be read are not none, where both pages have their length
  some_words : port_refusal (read_port a) m ≡ 0 → pages_fit m ≡ true → part ≡ [] → ⊥
  unfolding port_refusal
  some_words e fit z =
      let t = accepted (read_port a) (fresh_over m) e in
      let small : entry m a ≤ 255 = ltb-false 255 _ (t bad_entry) in
      let well : well_formed a (port_at m (entry m a)) ≡ true = excused _ _ (t bad_words) (t no_port) in
      let code = code_of (port_at m (entry m a)).master in
      let n : length part ≡ size_of code =
      part_size _ (entry m a) (size_of code) (page (flags_of (port_at m (entry m a)).flags).vp) small (size_small code) in
      let none : length part ≡ 0 = ap length z in
      omega (arith, size_some code (formed a (port_at m (entry m a)) well).code)
    where
      page : (b : Bool) → length (cond b m.page1 m.page0) ≡ 4096
      page true = (page_lengths m fit).1
      page false = (page_lengths m fit).0

  -- what asking answers, from its number
  refusal_of_lem : (x : Answer) → asked m a ≡ x → ((n : ℕ) → x ≡ Refused n → ⊥) → port_refusal (read_port a) m ≡ 0
  unfolding asked
  refusal_of_lem x e n = go (eqb (port_refusal (read_port a) m) 0) refl e
    where
      go : (b : Bool) → eqb (port_refusal (read_port a) m) 0 ≡ b
          → cond b (state_of (port_at m (entry m a))) (Refused (port_refusal (read_port a) m)) ≡ x
          → port_refusal (read_port a) m ≡ 0
      go true eb ex = eqb-true _ _ eb
      go false eb ex = absurd (n (port_refusal (read_port a) m) (sym ex))

  -- Fetching is empty exactly when asking refuses or answers never, or a page has another length.
  pub empty_exactly : (fetched m a ≡ []) ↔ (ShowsNone (asked m a) ⊎ (pages_fit m ≡ false))
  unfolding fetched
  empty_exactly = (λ e. by (pages_fit m) refl e, back)
    where
      go : pages_fit m ≡ true → (x : Answer) → asked m a ≡ x → part_for x part ≡ [] → ShowsNone (asked m a) ⊎ (pages_fit m ≡ false)
      go fit Never ex e = inl (inl ex)
      go fit Good ex e = absurd (some_words (refusal_of_lem Good ex (λ n q. let z : ◌≡◌ {A = ℕ} 0 1 = cc in omega arith)) fit e)
      go fit Held ex e = absurd (some_words (refusal_of_lem Held ex (λ n q. let z : ◌≡◌ {A = ℕ} 0 1 = cc in omega arith)) fit e)
      go fit Stale ex e = absurd (some_words (refusal_of_lem Stale ex (λ n q. let z : ◌≡◌ {A = ℕ} 0 1 = cc in omega arith)) fit e)
      go fit (Refused n) ex e = inl (inr (n, ex))

      by : (b : Bool) → pages_fit m ≡ b → cond b (part_for (asked m a) part) [] ≡ [] → ShowsNone (asked m a) ⊎ (pages_fit m ≡ false)
      by true fit e = go fit (asked m a) refl e
      by false fit e = inr fit

      back : ShowsNone (asked m a) ⊎ (pages_fit m ≡ false) → cond (pages_fit m) (part_for (asked m a) part) [] ≡ []
      back (inl (inl e)) = rw e (no_words_lem (pages_fit m))
      back (inl (inr e)) = rw e.1 (no_words_lem (pages_fit m))
      back (inr e) = rw e
