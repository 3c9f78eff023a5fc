-- One round, and whatever concerns other identifiers after it, is a step of the flood; and what the steps rest on stays so.
use mathlib.Core.Path.{◌≡◌, sym, ap, ◌∙◌}
use mathlib.Core.Bool.{true}
use mathlib.Core.Logic.{◌⊎◌, inl, inr}
use Prim.Native.Nat.{ℕ, suc, ◌-◌, ◌*◌, ◌/◌, ◌<◌}
use native.Mathlib.Omega.{arith}
use Rattle.bits.specs.Set.{bit}
use Rattle.bits.specs.First.{after}
use Rattle.device.specs.Reaction.{is_used}
use Rattle.plan.specs.Reading.{Held}
use Rattle.plan.specs.declared.Plan.{Plan}
use Rattle.state.specs.State.{State, register, waiting, running}
use Rattle.state.specs.Network.{devices, exists, peer, events, load_of}
use Rattle.state.specs.Sound.{Sound}
use Rattle.state.proofs.Plans.{FarEnd, few, owned, far-end}
use Rattle.bench.specs.Round.{round, after_sending}
use Rattle.bench.proofs.RoundSound.{bars-at}
use Rattle.laws.specs.Alike.{Alike, SendsIt}
use Rattle.reach.specs.Walk.{Leads}
use Rattle.flood.specs.Flood.{Step}
use Rattle.assurance.specs.Demand3.{crossing}
use Rattle.assurance.proofs.Nets.{net}
use Rattle.assurance.proofs.Sights.{rank, sight, sending, rank-fits, rank_same}
use Rattle.assurance.proofs.Choices.{runs-there, waits_there, waits-runs, waits-may, waits-owned, sends-small, sends-inside, sent-waits, sent, late, nearer, chosen-or-nearer}
use Rattle.assurance.proofs.Fits.{Fit, fit-alike}
use Rattle.assurance.proofs.Posted.{posts-late, posts-early, posts-next, posts-marks, posts-waited, posts-unsent, posts-wait-late, posts-wait-on, fit-posts}
use Rattle.assurance.proofs.Turns.{SameTurn}
use Rattle.assurance.proofs.Arrivals.{Came, Going, all-going, gets-in}

module _ (plan : Plan) (held : Held plan) (kind k : ℕ) (g : kind < 2) (l : k < 32) (used : is_used (events plan) kind k ≡ true) (s₀ : State) (takers : ℕ → Type 0) where
  module _ (u : ℕ) (loads : kind ≡ 0 → (d : ℕ) → d < devices plan → u < load_of plan d k) {s : State} (f : Fit plan kind k s₀ takers (suc u) s) where
    -- after the timers and the sending
    abbrev posts : State
    posts = (after_sending plan s).state

    fits : Fit plan kind k s₀ takers u posts
    fits = fit-posts plan kind k s₀ takers held g l u f

    going : Going plan kind k s₀ takers s u posts (round plan s).next
    unfolding round
    going = all-going plan kind k s₀ takers s held g l u f loads (after_sending plan s) fits

    -- no bit of k changes before the arrivals
    marks : (d : ℕ) → d < devices plan → bit (register posts d) k ≡ bit (register s d) k
    marks d h = posts-marks plan held f.sound k l d h (λ b. let more = f.long d h b in omega arith)

    -- ---- sending

    waited : (q : ℕ) → SendsIt plan k s kind q → bit (waiting s kind q) k ≡ 1
    waited q e = sent-waits plan held k l s q (sends-inside plan k kind s q l g e) kind g e

    small : (q : ℕ) → SendsIt plan k s kind q → q < 256
    small q e = sends-small plan k kind s q l g e

    served : (q : ℕ) → q < 256 → bit (waiting s kind q) k ≡ 1
        → SendsIt plan k s kind q ⊎ ((bit (waiting (round plan s).next kind q) k ≡ 1) × (rank k (round plan s).next q < rank k s q))
    served q h b =
        let o = waits-owned plan held f.sound q h kind k g b in
        let i : q < 8 * devices plan = omega arith in
        let same = rank_same k (going.turns q h) in
        elim (chosen-or-nearer plan held k l s q i kind g (f.other q h) b) [
          | sent e ↦ inl e
          | late c early ↦
              let turn = posts-late plan held f.sound q i c in
              inr (
                going.waits-on q h (posts-wait-late plan held f.sound k l kind q g h i c b),
                omega (arith, same, early, turn.1, ap (λ n. after n k) turn.0),
              )
          | nearer j c ne less ↦
              inr (
                going.waits-on q h (posts-wait-on plan held f.sound k l kind q g h j i c ne b),
                omega (arith, same, less, posts-early plan held f.sound q j i c, ap (λ n. after n k) (posts-next plan held f.sound q j i c)),
              )
        ]

    -- ---- arriving

    arrives : (q e : ℕ) → SendsIt plan k s kind q → Leads plan s₀ kind k q e → (e < devices plan) × (bit (register (round plan s).next e) k ≡ 1 - kind)
    unfolding round
    arrives q e x m =
        let j = peer plan q in
        let h = small q x in
        let there : exists plan q ≡ true = waits_there plan held f.sound q h kind k g (waited q x) in
        let end : FarEnd plan q = far-end plan held q h there m.joined in
        let o : j / 8 < devices plan = owned plan held j m.joined end.far in
        let flag : running s₀ j ≡ 1 =
        sym (f.runs j m.joined) ∙ sym ((f.sound.ports q h there).both_ends m.joined) ∙ f.runs q h ∙ m.runs in (
          rw m.there o,
          gets-in plan kind k s₀ takers s held g l u f loads (after_sending plan s) fits used e j (omega arith)
              (record { inside = m.joined; there = sym m.there; sender = rw end.back x; runs = flag; may = m.receives; unbarred = ap (λ v. bit v k) (bars-at plan held j kind m.joined g) ∙ m.admits }),
        )

    came-leads : (e j : ℕ) → Came plan kind k s₀ s e j → Leads plan s₀ kind k (peer plan j) e
    came-leads e j c =
        let h = small (peer plan j) c.sender in
        let b = waited (peer plan j) c.sender in
        let there : exists plan j ≡ true = runs-there plan held f.sound j c.inside (f.runs j c.inside ∙ c.runs) in
        let back = (far-end plan held j c.inside there h).back in
        record {
          runs = sym (f.runs (peer plan j) h) ∙ waits-runs plan held f.sound (peer plan j) h kind k g b;
          sends = waits-may plan held f.sound (peer plan j) h kind k g b;
          joined = rw back c.inside;
          receives = rw back c.may;
          admits = rw back (ap (λ v. bit v k) (sym (bars-at plan held j kind c.inside g)) ∙ c.unbarred);
          there = rw back (sym c.there);
        }

    -- ---- what is so after the round is so after the calls

    module _ {t : State} (like : Alike k (round plan s).next t) where
      pub fit-after : Sound plan t → Fit plan kind k s₀ takers u t
      fit-after y = fit-alike plan kind k s₀ takers held g u like y going.fit

      now : (d : ℕ) → d < devices plan → bit (register t d) k ≡ bit (register (round plan s).next d) k
      now d h = let n = few plan held in sym (like.marks d (omega arith))

      here : (q : ℕ) → q < 256 → bit (waiting t kind q) k ≡ bit (waiting (round plan s).next kind q) k
      here q h = sym (like.waits kind q g h)

      -- the calls change no port's turn
      pub step : ((q : ℕ) → q < 256 → SameTurn (round plan s).next t q) → (source : ℕ)
          → Step (net plan kind k s₀ takers source) crossing (sight plan kind k s₀ takers source s) (sending plan kind k s) (sight plan kind k s₀ takers source t)
      step turns source =
          record {
            keeps = λ {d} h. (h.0, h.1, now d h.0 ∙ going.keeping d h.0 (marks d h.0 ∙ h.2));
            waited = λ {q} h. (h.0, waited q h.1);
            bounded = λ {q} h. rank-fits k s q;
            served = λ {q} h. elim (served q h.0 h.1) [
              | inl e ↦ inl (h.0, e)
              | inr c ↦ inr ((h.0, here q h.0 ∙ c.0), omega (arith, rank_same k (turns q h.0), c.1))
            ];
            arrives = λ {q} {e} h m. let c = arrives q e h.1 m.1 in (c.0, m.2, now e c.0 ∙ c.1);
            begins = λ {e} h. elim (going.begins e h.0 (sym (now e h.0) ∙ h.2)) [
              | inl b ↦ inl (h.0, h.1, sym (marks e h.0) ∙ b)
              | inr c ↦
                  let b = small (peer plan c.0) c.1.sender in
                  inr (peer plan c.0, (b, c.1.sender), (b, came-leads e c.0 c.1, h.1))
            ];
            waiting = λ {q} h. elim (going.fresh q h.0 (sym (here q h.0) ∙ h.1)) [
              | inl b ↦ inl ((h.0, posts-waited plan held f.sound k l kind q g h.0 b), λ e. posts-unsent plan held f.sound k l kind q g h.0 b e.1)
              | inr c ↦
                  let o = waits-owned plan held going.fit.sound q h.0 kind k g (sym (here q h.0) ∙ h.1) in
                  inr (λ a. absurd (omega (arith, marks (q / 8) o, a.2, c.0)), (o, fits.still (q / 8) o c.0, now (q / 8) o ∙ c.1), c.2)
            ];
            relayed = λ {q} {e} h r m. elim (going.relays q m.0 h.0 r m.1.runs m.1.sends (sym (now (q / 8) h.0) ∙ h.2)) [
              | inl b ↦ inl (h.0, h.1, sym (marks (q / 8) h.0) ∙ b)
              | inr c ↦ inr (elim c [ inl w ↦ inl (m.0, here q m.0 ∙ w) | inr o ↦ inr (peer plan q, (small (peer plan q) o, o), sym m.1.there) ])
            ];
          }
