-- What a port sends of one code, and what waiting for it tells of the port; in a sound state.
use mathlib.Core.Path.{◌≡◌, refl, ap, ◌∙◌}
use mathlib.Core.Bool.{Bool, true, false, not-eq-not}
use mathlib.Core.Logic.{◌≢◌, dite}
use Prim.Native.Nat.{ℕ, zero, suc, ◌+◌, ◌-◌, ◌*◌, ◌/◌, ◌%◌, ◌<◌, max}
use native.Mathlib.Decide.{ℕ_discrete, dec_lt}
use native.Mathlib.Omega.{arith}
use lib.Bits.{bit_or}
use lib.ListN.{get_or, get_or-eq_default}
use borrow.Author.Tests.{le-ltb}
use Rattle.lists.proofs.Tables.{length-table, get_d-table}
use Rattle.bits.specs.Set.{bit}
use Rattle.bits.specs.First.{Finds, after}
use Rattle.std.specs.Prelude.{Option, Some, None}
use Rattle.bits.proofs.Sets.{bit-two, bit-or, bit-zero}
use Rattle.device.specs.Permissions.{may_send}
use Rattle.plan.specs.Fields.{nobody}
use Rattle.plan.specs.Reading.{Held}
use Rattle.plan.specs.declared.Plan.{Plan}
use Rattle.plan.proofs.BothWays.{held-peers}
use Rattle.state.specs.State.{State, word, port_words, port_at, waiting, next, running_at, running, lately}
use Rattle.state.specs.Network.{devices, exists, peer, permissions}
use Rattle.state.specs.Sound.{Kept, Sound}
use Rattle.state.proofs.Plans.{owned}
use Rattle.bench.specs.Round.{nothing, first_waits, time_goes, chosen, sent_words, sent_bytes}
use Rattle.bench.proofs.Stepped.{first_finds, chosen-first, first-chosen, goes-early, post-interrupt, post-acknowledge}
use Rattle.laws.specs.Alike.{SendsIt}
use Rattle.laws.proofs.Apart.{sent-at, sends-chosen, chosen-sends}
use Rattle.assurance.proofs.Sights.{passed_over}

-- ---- ports of a sound state

module _ (plan : Plan) (held : Held plan) {s : State} (x : Sound plan s) (q : ℕ) (small : q < 256) where
  -- a port where a word is not 0 exists
  there : (i : ℕ) → i < port_words → word s (port_at q i) ≢ 0 → exists plan q ≡ true
  there i l n = (not-eq-not {b = true}).0 (λ e. n (x.no-port q i small e l))

  -- a port that runs exists, and belongs to a device of the plan
  pub runs-there : running s q ≡ 1 → exists plan q ≡ true
  runs-there r = there running_at (omega arith) (λ e. omega arith)

  -- and is joined to another
  pub runs-joined : running s q ≡ 1 → peer plan q < nobody
  runs-joined r =
      elim (ℕ_discrete (peer plan q) nobody) [
        | yes z ↦ absurd (omega (arith, (x.ports q small (runs-there r)).loose z))
        | no n ↦ omega (arith, held-peers plan held (q / 8) (q % 8))
      ]

  -- a code waits only where the port runs and may send it
  module _ (kind k : ℕ) (g : kind < 2) (b : bit (waiting s kind q) k ≡ 1) where
    some : waiting s kind q ≢ 0
    some e = omega (arith, ap (λ v. bit v k) e, bit-zero k)

    pub waits_there : exists plan q ≡ true
    waits_there = there kind (omega arith) some

    pub waits-runs : running s q ≡ 1
    waits-runs =
        let p : Kept plan s q = x.ports q small waits_there in
        elim (ℕ_discrete (running s q) 0) [ yes e ↦ absurd (some (p.stopped e kind g)) | no n ↦ omega (arith, p.flag) ]

    pub waits-may : may_send kind (permissions plan q) ≡ true
    waits-may = (not-eq-not {b = true}).0 (λ e. some ((x.ports q small waits_there).mute kind g e))

    pub waits-owned : q / 8 < devices plan
    waits-owned = owned plan held q small waits_there

-- ---- what is sent

-- only a port of a device sends
pub sends-small : (plan : Plan) (k kind : ℕ) (s : State) (q : ℕ) → k < 32 → kind < 2 → SendsIt plan k s kind q → q < 256
unfolding sent_bytes
sends-small plan k kind s q l g e =
    dite (dec_lt q 256) (λ b. b)
    (λ n.
    let none : get_or (sent_bytes plan s) q nothing ≡ nothing = get_or-eq_default (sent_bytes plan s) nothing (rw length-table (omega arith)) in
    absurd (omega arith))

pub sends-inside : (plan : Plan) (k kind : ℕ) (s : State) (q : ℕ) → k < 32 → kind < 2 → SendsIt plan k s kind q → q < 8 * devices plan
unfolding sent_bytes
sends-inside plan k kind s q l g e =
    let h = sends-small plan k kind s q l g e in
    dite (dec_lt q (8 * devices plan)) (λ b. b)
    (λ n. let none : get_or (sent_bytes plan s) q nothing ≡ nothing = get_d-table sent_words _ q nothing h ∙ rw (le-ltb q (8 * devices plan) (omega arith)) in absurd (omega arith))

module _ (plan : Plan) (held : Held plan) (k : ℕ) (l : k < 32) (s : State) (q : ℕ) (h : q < 8 * devices plan) where
  -- k waits here, as the kind or as the other
  pub waiting-of : (kind : ℕ) → kind < 2 → bit (bit_or (waiting s 0 q) (waiting s 1 q)) k ≡ max (bit (waiting s kind q) k) (bit (waiting s (1 - kind) q) k)
  waiting-of zero g = bit-or k (waiting s 0 q) (waiting s 1 q)
  waiting-of (suc zero) g = omega (arith, bit-or k (waiting s 0 q) (waiting s 1 q))
  waiting-of (suc (suc n)) g = absurd (omega arith)

  -- what is first is found
  found : (c : Option ℕ) → first_waits s q ≡ c → Finds (bit_or (waiting s 0 q) (waiting s 1 q)) (next s q) c
  found c e = rw e at (first_finds s q)

  -- what is sent waits
  pub sent-waits : (kind : ℕ) → kind < 2 → SendsIt plan k s kind q → bit (waiting s kind q) k ≡ 1
  unfolding Finds
  sent-waits kind g e =
      let o = sends-chosen l plan held s q h kind g e in
      let m = (found (Some k) (chosen-first s q o).1).member in
      elim (ℕ_discrete (bit (waiting s 0 q) k) 1) [
        | yes y ↦ let is : kind ≡ 0 = omega (arith, sent-at l plan held s q h, post-interrupt s q o y) in rw is y
        | no n ↦
            let is : kind ≡ 1 = omega (arith, sent-at l plan held s q h, post-acknowledge s q o n) in
            rw is (omega (arith, waiting-of 0 (omega arith), m, bit-two (waiting s 0 q) k, bit-two (waiting s 1 q) k))
      ]

  module _ (kind : ℕ) (g : kind < 2) (other : bit (waiting s (1 - kind) q) k ≡ 0) where
    -- where k is chosen, it is sent as the kind in which it waits
    chosen-of-kind : chosen s q ≡ Some k → SendsIt plan k s kind q
    chosen-of-kind o =
        let c = chosen-sends l plan held s q h o in
        elim (ℕ_discrete c.0 kind) [
          | yes e ↦ rw e at c.2
          | no n ↦
              let is : c.0 ≡ 1 - kind = omega (arith, c.1) in
              absurd (omega (arith, ap (λ v. bit (waiting s v q) k) is, sent-waits c.0 c.1 c.2))
        ]

    -- a waiting code is sent; or a Time-Code is, and the last one sent was none; or another code is, and k comes nearer
    pub data Served : Type 0 where
      sent : SendsIt plan k s kind q → Served
      late : time_goes s q ≡ true → lately s q ≡ 0 → Served
      nearer : (j : ℕ) → chosen s q ≡ Some j → j ≢ k → after ((j + 1) % 32) k < after (next s q) k → Served

    pub chosen-or-nearer : bit (waiting s kind q) k ≡ 1 → Served
    unfolding Finds
    chosen-or-nearer b = by_first (first_waits s q) refl
      where
        all : bit (bit_or (waiting s 0 q) (waiting s 1 q)) k ≡ 1
        all = omega (arith, waiting-of kind g)

        by_first : (c : Option ℕ) → first_waits s q ≡ c → Served
        by_first None e = absurd (omega (arith, all, found None e k l))
        by_first (Some j) e = by-time (time_goes s q) refl
          where
            by-time : (t : Bool) → time_goes s q ≡ t → Served
            by-time true o = late o (goes-early s q o e)
            by-time false o =
                let c = first-chosen s q o ∙ e in
                elim (ℕ_discrete j k) [
                  | yes is ↦ sent (chosen-of-kind (c ∙ ap Some is))
                  | no n ↦ nearer j c n (passed_over k (found (Some j) e) l all n)
                ]
