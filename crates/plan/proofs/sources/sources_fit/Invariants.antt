-- `plan::sources::sources_fit` meets its contract. The loop's invariant: the devices before d fit, and what was seen of them shares events alone
-- with a mask exactly where each of theirs does. Assumes nothing.
use mathlib.Core.Path.{◌≡◌, refl, sym, ap, ap₂, ◌∙◌}
use mathlib.Core.Bool.{true, false, ◌&&◌}
use Prim.Native.Nat.{ℕ, ◌+◌, ◌<◌}
use native.Mathlib.Numerals.{add-one}
use lib.Bits.{bit_or}
use lib.ListN.{get_or}
use Rattle.lists.specs.Table.{every}
use Rattle.lists.proofs.Tests.{every-not}
use Rattle.plan.specs.Fields.{share_events, sources_fit}
use Rattle.plan.proofs.Shared.{share-none, share-more, sources-more}
use Rattle.plan.proofs.sources.sources_fit.Given as goal

module _ (events : ℕ) (source : ℕ → ℕ) where
  pub record Seen (seen d : ℕ) : Type 0 where
    pub fits : sources_fit events source d ≡ true
    pub shares : (c : ℕ) → share_events events seen c ≡ every d (λ e. share_events events (source e) c)

  pub none : Seen 0 0
  unfolding sources_fit every
  none = record { fits = refl; shares = share-none events }

  -- device d shares events alone with those before it
  pub one_more_lem : (seen d : ℕ) → Seen seen d → share_events events seen (source d) ≡ true → Seen (bit_or seen (source d)) (d + 1)
  unfolding every
  one_more_lem seen d s e =
      record {
        fits = sources-more events d source ∙ ap₂ (λ x y. x && y) s.fits (sym (s.shares (source d)) ∙ e);
        shares = λ c. share-more events seen (source d) c ∙ rw (add-one) (ap (λ x. x && share_events events (source d) c) (s.shares c));
      }

  -- or it does not, and neither do n devices that it is one of
  pub one-bad : (seen d n : ℕ) → Seen seen d → share_events events seen (source d) ≡ false → d < n → sources_fit events source n ≡ false
  unfolding sources_fit
  one-bad seen d n s e l = every-not n _ d l (sym (s.shares (source d)) ∙ e)

abbrev pub invariant-loop-mask : goal.invariant-loop-mask
invariant-loop-mask l = Seen l.events (λ e. get_or l.mask-items e 0) l.seen l.mask-index
