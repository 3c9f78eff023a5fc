-- Where all links grant everything, codes go both ways: the acknowledge of a handler gets back to the source, and by one way of the source to all devices that
-- the interrupt got to.
use mathlib.Core.Path.{◌≡◌, refl, sym, ap, ◌∙◌}
use mathlib.Core.Bool.{true, false}
use mathlib.Core.Logic.{◌⊎◌, inl, inr, ◌≢◌}
use Prim.Native.Nat.{ℕ, suc, ◌+◌, ◌*◌, ◌/◌, ◌%◌, ◌≤◌, ◌<◌}
use native.Mathlib.Omega.{arith}
use borrow.Author.Tests.{ltb-true}
use Rattle.bits.specs.Set.{bit, size}
use Rattle.plan.specs.Fields.{nobody}
use Rattle.plan.specs.Reading.{Held}
use Rattle.plan.specs.declared.Plan.{Plan}
use Rattle.state.specs.State.{State, running}
use Rattle.state.specs.Network.{devices, router, ports_of, exists, peer, source, handler}
use Rattle.state.specs.Sound.{Kept, Sound}
use Rattle.state.proofs.Plans.{few, masked, far-end}
use Rattle.reach.specs.Walk.{Leads, Any, WalkOver, Walk, stay, cross}
use Rattle.reach.specs.Away.{Away, Farthest}
use Rattle.reach.specs.Reach.{Reached}
use Rattle.reach.proofs.Found.{none-away}
use Rattle.reach.proofs.Distances.{any?, walk-device, walk-port, reached?, farthest, farthest-once, crossings-below}
use Rattle.assurance.specs.Return.{Permits, Gets, Back, AwayBack, FarthestBack, FoundBack, OneWay, Answers, AllFound, NoOthers, CountsAll}
use Rattle.assurance.proofs.Choices.{runs-there, runs-joined}
use Rattle.assurance.proofs.Crossings.{ends-over, walk_same, away-same}

-- ---- devices with a mask

pub node : (plan : Plan) → Held plan → (d k : ℕ) → d < devices plan → 1 ≤ bit (source plan d) k + bit (handler plan d) k → router plan d ≡ false
node plan held d k h some = rw (masked plan held d k h some).0

-- no node is a source and a handler of k
pub apart : (plan : Plan) → Held plan → (k from to : ℕ) → from < devices plan → bit (source plan from) k ≡ 1 → bit (handler plan to) k ≡ 1 → from ≢ to
apart plan held k from to there requests handles e = omega (arith, (masked plan held from k there (omega arith)).1, ap (λ d. bit (handler plan d) k) e)

-- what is so of a source, and of a handler that its interrupt gets to
pub record TwoNodes (plan : Plan) (k from to : ℕ) (s : State) : Type 0 where
  pub there : to < devices plan
  pub nodes : (router plan from ≡ false) × (router plan to ≡ false)
  pub apart : from ≢ to
  -- a port of the handler runs
  pub runs : (p : ℕ) × (p < 8) × (running s (8 * to + p) ≡ 1)

-- ---- links that run, where every port that runs may send and receive everything

-- a port of device d runs, and at its other end is a port of device e
record Link (plan : Plan) (s : State) (d e : ℕ) : Type 0 where
  port : ℕ
  small : port < 256
  runs : running s port ≡ 1
  own : port / 8 ≡ d
  there : peer plan port / 8 ≡ e

module _ (plan : Plan) (held : Held plan) {s : State} (x : Sound plan s) (k : ℕ) (permits : Permits plan k s) where
  module _ {d e : ℕ} (link : Link plan s d e) where
    link-there : exists plan link.port ≡ true
    link-there = runs-there plan held x link.port link.small link.runs

    kept : Kept plan s link.port
    kept = x.ports link.port link.small link-there

    joined : peer plan link.port < nobody
    joined = runs-joined plan held x link.port link.small link.runs

    -- it is a link from its other end too
    link-back : Link plan s e d
    link-back =
        record {
          port = peer plan link.port;
          small = joined;
          runs = sym (kept.both_ends joined) ∙ link.runs;
          own = link.there;
          there = ap (λ q. q / 8) (far-end plan held link.port link.small link-there joined).back ∙ link.own;
        }

  -- ---- walks over them

  module _ (kind from : ℕ) (h : from < devices plan) where
    -- a crossing is over a link
    crossed-link : {Over : ℕ → Type 0} {n d e p : ℕ} → WalkOver plan s kind k Over from n d → p < 8 → Leads plan s kind k (8 * d + p) e → Link plan s d e
    crossed-link {d = d} {p = p} w l leads =
        record {
          port = 8 * d + p;
          small = omega (arith, walk-device plan held s kind k from h w, few plan held);
          runs = leads.runs;
          own = omega arith;
          there = sym leads.there;
        }

    -- the last one, from where the walk ends
    last-link : {Over : ℕ → Type 0} {n e : ℕ} → WalkOver plan s kind k Over from n e → e ≢ from
        → (d : ℕ) × Link plan s e d × ((m : ℕ) × WalkOver plan s kind k Over from m d)
    last-link stay ne = absurd (ne refl)
    last-link (cross w on p l leads over) ne = (_, link-back (crossed-link w l leads), (_, w))

    -- codes of either kind cross a link
    along : kind < 2 → {Over : ℕ → Type 0} {n d e : ℕ} → Link plan s d e → WalkOver plan s kind k Over from n d → (n ≡ 0) ⊎ (router plan d ≡ true) → Over e
        → WalkOver plan s kind k Over from (suc n) e
    unfolding link-back
    along g link w on over =
        let back = link-back link in
        walk-port plan held s kind k from h link.port (rw link.own w) (rw link.own on)
        (record {
          runs = link.runs;
          sends = (permits kind link.port g link.small link.runs).0;
          joined = back.small;
          receives = (permits kind back.port g back.small back.runs).1;
          admits = (permits kind back.port g back.small back.runs).2;
          there = sym link.there;
        })
        over

  -- codes of a kind from device a, and of another kind from device b, which go only over some devices; those that the first get to are among them
  module _ (kind a : ℕ) (h : a < devices plan) (other b : ℕ) (i : b < devices plan) (g : other < 2) (Over : ℕ → Type 0)
      (over : (n e : ℕ) → Walk plan s kind k a n e → Over e) where
    abbrev Comes : ℕ → ℕ → Type 0
    Comes = WalkOver plan s other k Over b

    -- where both get, those of b go on to a, by the way that those of a came
    way_back : {n m d : ℕ} → Walk plan s kind k a n d → Comes m d → (n ≡ 0) ⊎ ((m ≡ 0) ⊎ (router plan d ≡ true)) → (j : ℕ) × Comes j a
    way_back stay v on = (_, v)
    way_back (cross w before p l leads any) v (inl z) = absurd (omega arith)
    way_back (cross w before p l leads any) v (inr on) =
        way_back w (along other b i g (link-back (crossed-link kind a h w l leads)) v on (over _ _ w)) (elim before [ inl z ↦ inl z | inr r ↦ inr (inr r) ])

    -- where a has one way, and those of b get to a, they get wherever those of a do
    gets-too : ((d e : ℕ) → Link plan s a d → Link plan s a e → d ≡ e) → a ≢ b → {m : ℕ} → Comes m a
        → {n e : ℕ} → Walk plan s kind k a n e → (j : ℕ) × Comes j e
    gets-too one ne v stay = (_, v)
    gets-too one ne v (cross {d = d} {e = e} w on p l leads any) =
        let link = crossed-link kind a h w l leads in
        elim on [
          | inl z ↦
              let last = last-link other b i v ne in
              rw (← one last.0 e last.1 (rw (none-away w z) at link)) last.2
          | inr r ↦ (_, along other b i g link (gets-too one ne v w).1 (inr r) (over _ e (cross w (inr r) p l leads any)))
        ]

-- a device with one way
one_link : {plan : Plan} {s : State} {a : ℕ} → OneWay plan s a → (d e : ℕ) → Link plan s a d → Link plan s a e → d ≡ e
one_link {plan} {s} {a} one d e l m =
    let first : 8 * a + l.port % 8 ≡ l.port = omega (arith, l.own) in
    let second : 8 * a + m.port % 8 ≡ m.port = omega (arith, m.own) in
    sym l.there ∙ rw (first, second) at (one (l.port % 8) (m.port % 8) (omega arith) (omega arith) (rw first l.runs) (rw second m.runs)) ∙ m.there

-- such is a device with one port
pub one-port : (plan : Plan) → Held plan → {s : State} → Sound plan s → (d : ℕ) → d < devices plan → ports_of plan d ≡ 1 → OneWay plan s d
one-port plan held {s} x d h one p q a b on too =
    ap (λ r. peer plan (8 * d + r) / 8) (first p a on ∙ sym (first q b too))
  where
    first : (p : ℕ) → p < 8 → running s (8 * d + p) ≡ 1 → p ≡ 0
    first p a on =
        let there = runs-there plan held x (8 * d + p) (omega (arith, few plan held)) on in
        let device : (8 * d + p) / 8 ≡ d = omega arith in
        omega (arith, ltb-true ((8 * d + p) % 8) (ports_of plan ((8 * d + p) / 8)) there, ap (ports_of plan) device)

-- ---- a source, and a handler that its interrupt gets to

module _ {plan : Plan} {k from to : ℕ} {s : State} (x : Answers plan k from to s) where
  handler-there : to < devices plan
  handler-there = walk-device plan x.held s 0 k from x.there x.reached.1

  differ : from ≢ to
  differ = apart plan x.held k from to x.there x.requests x.handles

  pub two-nodes : TwoNodes plan k from to s
  two-nodes =
      let link = (last-link plan x.held x.sound k x.permits 0 from x.there x.reached.1 (λ e. differ (sym e))).1 in
      let whole : 8 * to + link.port % 8 ≡ link.port = omega (arith, link.own) in
      record {
        there = handler-there;
        nodes = (node plan x.held from k x.there (omega (arith, x.requests)), node plan x.held to k handler-there (omega (arith, x.handles)));
        apart = differ;
        runs = (link.port % 8, omega arith, rw whole link.runs);
      }

  -- the acknowledge gets back to the source
  source-found : (n : ℕ) × Back plan k from to s n from
  source-found =
      way_back plan x.held x.sound k x.permits 0 from x.there 1 to handler-there (omega arith) (Gets plan k from s) (λ n e w. (n, w))
      x.reached.1 stay (inr (inl refl))

  all_there : OneWay plan s from → FoundBack plan k from to s
  all_there one e w =
      gets-too plan x.held x.sound k x.permits 0 from x.there 1 to handler-there (omega arith) (Gets plan k from s) (λ n e w. (n, w))
      (one_link one) differ source-found.1 w.1

  -- from the source or a router that was reached, the interrupt gets to whatever is at the other end of a link
  way-over : {n e : ℕ} → Walk plan s 1 k to n e → Gets plan k from s e → (e ≡ from) ⊎ (router plan e ≡ true) → Back plan k from to s n e
  way-over stay got on = stay
  way-over (cross {n = n} {d = d} w before p l leads any) got on =
      let link = link-back plan x.held x.sound k x.permits (crossed-link plan x.held x.sound k x.permits 1 to handler-there w l leads) in
      let next : Gets plan k from s d =
      elim on [
        | inl own ↦ (1, along plan x.held x.sound k x.permits 0 from x.there (omega arith) (rw own at link) stay (inl refl) tt)
        | inr r ↦ (_, along plan x.held x.sound k x.permits 0 from x.there (omega arith) link got.1 (inr r) tt)
      ] in
      let way : Back plan k from to s n d = elim before [ inl z ↦ rw (z, none-away w z) stay | inr r ↦ way-over w next (inr r) ] in
      cross way before p l leads got

  -- where the handler has one way, the interrupt gets to whatever its acknowledge does
  module _ (one : OneWay plan s to) where
    got-too : (n e : ℕ) → Walk plan s 1 k to n e → Any e → Gets plan k from s e
    got-too n e w any =
        gets-too plan x.held x.sound k x.permits 1 to handler-there 0 from x.there (omega arith) Any (λ n e w. tt)
        (one_link one) (λ e. differ (sym e)) x.reached.1 w

    no-detour : {n e : ℕ} → Walk plan s 1 k to n e → Back plan k from to s n e
    no-detour = walk_same plan x.held 1 k to handler-there (λ q h. refl) got-too

    away-over : {n e : ℕ} → Away plan s 1 k to n e → AwayBack plan k from to s n e
    away-over = away-same plan x.held 1 k to handler-there (λ q h. refl) got-too (λ n e w got. tt)

    away-any : {n e : ℕ} → AwayBack plan k from to s n e → Away plan s 1 k to n e
    away-any = away-same plan x.held 1 k to handler-there (λ q h. refl) (λ n e w got. tt) got-too

    all-counted : (D' : ℕ) → (Farthest plan s 1 k to D' → FarthestBack plan k from to s D') × (FarthestBack plan k from to s D' → Farthest plan s 1 k to D')
    all-counted D' = (
      λ far. record { some = (far.some.0, away-over far.some.1); most = λ n e a. far.most n e (away-any a) },
      λ far. record { some = (far.some.0, away-any far.some.1); most = λ n e a. far.most n e (away-over a) },
    )

pub all_found : AllFound
unfolding AllFound
all_found plan k from to s x = (source-found x, all_there x)

pub no-others : NoOthers
unfolding NoOthers
no-others plan k from to s x n e w (inl own) = way-over x w (rw own (0, stay)) (inl own)
no-others plan k from to s x n e w (inr (inl hub)) = way-over x w hub.1 (inr hub.0)
no-others plan k from to s x n e w (inr (inr one)) = no-detour x one w

pub counts_all : CountsAll
unfolding CountsAll
counts_all plan k from to D' s x one = all-counted x one D'

-- ---- D'

module _ (plan : Plan) (held : Held plan) (k from to : ℕ) (s : State) (there : from < devices plan) (inside : to < devices plan) where
  -- it exists, and is one
  pub there-is-one : (D' : ℕ) × FarthestBack plan k from to s D'
  there-is-one = farthest plan held s 1 k to inside (Gets plan k from s) (reached? plan held s 0 k from there Any any?)

  pub only_one : (D' E : ℕ) → FarthestBack plan k from to s D' → FarthestBack plan k from to s E → D' ≡ E
  only_one D' E x y = farthest-once plan s 1 k (Gets plan k from s) to D' E x y

  -- it is less than the number of devices that reach answers with for the source
  pub back_below : Gets plan k from s to → (D' set : ℕ) → FarthestBack plan k from to s D' → Reached plan s from k set → D' < size set
  back_below reached D' set x r =
      crossings-below plan held s 1 k to inside (Gets plan k from s) (reached? plan held s 0 k from there Any any?) D' set x
      (λ n e w. let way = ends-over w reached in (r.all way.0 e way.1).1)
