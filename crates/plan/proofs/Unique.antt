-- Each public function's promise allows one result.
use mathlib.Core.Path.{◌≡◌, refl, sym, ap, ◌∙◌}
use mathlib.Core.Bool.{Bool, false≢true}
use mathlib.Core.List.{List, []}
use Prim.Native.Nat.{ℕ, min}
use lib.ListN.{get_or}
use Rattle.std.specs.Prelude.{Option, Some, None, IsSome, IfSome, ◌↔◌}
use Rattle.lists.specs.Table.{joined}
use Rattle.plan.specs.Fields.{devices_fit, loads_fit, ports_fit, masks_fit, master_is_node, sources_fit}
use Rattle.plan.specs.Refusals.{first, join_tests}
use Rattle.answers.specs.Decides.{Decides}
use Rattle.answers.proofs.Unique.{decides-once}
use Rattle.plan.specs.Header.{header_of, header_fits, core_with}
use Rattle.plan.specs.Reading.{Held, zeros}
use Rattle.plan.specs.declared.Core.{Core}
use Rattle.plan.specs.declared.Header.{Header}
use Rattle.plan.specs.declared.Plan.{Plan}

pub whole_unique : (core : Core) (peers : List (List ℕ)) (barred : List ℕ) (r s : Plan)
    → (r.core ≡ core) × (r.peers ≡ peers) × (r.barred ≡ barred) → (s.core ≡ core) × (s.peers ≡ peers) × (s.barred ≡ barred) → r ≡ s
whole_unique core peers barred r s p q =
    let a = p.0 ∙ sym q.0 in
    let b = p.1 ∙ sym q.1 in
    let c = p.2 ∙ sym q.2 in
    λ i. record { core = a i; peers = b i; barred = c i }

pub peers-of-unique : (plan : Plan) (r s : List (List ℕ)) → r ≡ plan.peers → s ≡ plan.peers → r ≡ s
peers-of-unique plan r s p q = p ∙ sym q

pub header-of-unique : (core : Core) (r s : Header) → r ≡ header_of core → s ≡ header_of core → r ≡ s
header-of-unique core r s p q = p ∙ sym q

module _ (header : Header) where
  pub core-with-unique : (role ports source handler permissions : List ℕ) (r s : Core)
      → r ≡ core_with header role ports source handler permissions → s ≡ core_with header role ports source handler permissions → r ≡ s
  core-with-unique role ports source handler permissions r s p q = p ∙ sym q

  pub header-fits-unique : (r s : Bool) → r ≡ header_fits header → s ≡ header_fits header → r ≡ s
  header-fits-unique r s p q = p ∙ sym q

pub blank-unique : (r s : Plan) → r ≡ zeros → s ≡ zeros → r ≡ s
blank-unique r s p q = p ∙ sym q

pub devices-fit-unique : (n : ℕ) (r s : Bool) → r ≡ devices_fit n → s ≡ devices_fit n → r ≡ s
devices-fit-unique n r s p q = p ∙ sym q

pub loads-fit-unique : (router node : ℕ) (r s : Bool) → r ≡ loads_fit router node → s ≡ loads_fit router node → r ≡ s
loads-fit-unique router node r s p q = p ∙ sym q

pub ports-fit-unique : (role ports : ℕ) (r s : Bool) → r ≡ ports_fit role ports → s ≡ ports_fit role ports → r ≡ s
ports-fit-unique role ports r s p q = p ∙ sym q

pub masks-fit-unique : (role source handler : ℕ) (r s : Bool) → r ≡ masks_fit role source handler → s ≡ masks_fit role source handler → r ≡ s
masks-fit-unique role source handler r s p q = p ∙ sym q

pub master-is-node-unique : (master d role : ℕ) (r s : Bool) → r ≡ master_is_node master d role → s ≡ master_is_node master d role → r ≡ s
master-is-node-unique master d role r s p q = p ∙ sym q

module _ (n : ℕ) (ports : List ℕ) (peers : List (List ℕ)) where
  abbrev found : ℕ
  found = (first (joined (min n 32) (join_tests (λ e. get_or ports e 0) (λ e q. get_or (get_or peers e []) q 0)))).at

  pub bad-block-unique : (r s : ℕ) → r ≡ found → s ≡ found → r ≡ s
  bad-block-unique r s p q = p ∙ sym q

pub sources-fit-unique : (events : ℕ) (source : List ℕ) (n : ℕ) (r s : Bool)
    → r ≡ sources_fit events (λ d. get_or source d 0) (min n 32) → s ≡ sources_fit events (λ d. get_or source d 0) (min n 32) → r ≡ s
sources-fit-unique events source n r s p q = p ∙ sym q

pub is-held-unique : (plan : Plan) (r s : Bool) → Decides (Held plan) r → Decides (Held plan) s → r ≡ s
is-held-unique plan r s p q = decides-once r s p q

-- a number with a bound is made where the bound allows it, and is that number: of a device, of a port, and of a device's port
pub bounded-unique : {A : Type 0} (n : ℕ) (r s : Option ℕ) → (IsSome r ↔ A) → IfSome r (λ d. d ≡ n) → (IsSome s ↔ A) → IfSome s (λ d. d ≡ n) → r ≡ s
bounded-unique n (Some a) (Some b) ra pa rb pb = ap Some (pa ∙ sym pb)
bounded-unique n (Some a) None ra pa rb pb = absurd (false≢true (rb.1 (ra.0 refl)))
bounded-unique n None (Some b) ra pa rb pb = absurd (false≢true (ra.1 (rb.0 refl)))
bounded-unique n None None ra pa rb pb = refl
