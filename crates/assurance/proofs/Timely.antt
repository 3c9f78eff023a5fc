-- A round as one Time-Code sees it, where no other Time-Code is about: who has its value, where it waits, and what hosts are told of it.
use mathlib.Core.Path.{◌≡◌, refl, sym, ap, ◌∙◌}
use mathlib.Core.Bool.{Bool, true, false, cond, not, ◌&&◌, false≢true}
use mathlib.Core.List.{[], ◌∷◌, ◌++◌}
use mathlib.Core.Logic.{◌⊎◌, inl, inr, ◌≢◌, dite}
use Prim.Native.Nat.{ℕ, suc, ◌+◌, ◌*◌, ◌/◌, ◌%◌, ◌≤◌, ◌<◌}
use native.Mathlib.Decide.{ℕ_discrete, dec_lt}
use native.Mathlib.Omega.{arith}
use lib.ListN.{length, get_or, get_or-eq_default}
use borrow.Author.Tests.{eq-eqb, ne_eqb, le-ltb}
use Rattle.lists.proofs.Loops.{keeps, hit}
use Rattle.lists.proofs.Tables.{length-table, get_d-table}
use Rattle.device.specs.Reaction.{next_time}
use Rattle.plan.specs.Reading.{Held}
use Rattle.plan.specs.declared.Plan.{Plan}
use Rattle.state.specs.State.{State, words, word, put, ports_end, port_at, running_at, running, counter_at, counter, time_at, time, time_waits, lately, drops_start}
use Rattle.state.specs.Network.{devices, exists, router, peer}
use Rattle.state.specs.Sound.{Sound}
use Rattle.state.specs.Queue.{queue_time_all}
use Rattle.state.proofs.Words.{length-put, word_same, word-other, put_word}
use Rattle.state.proofs.Plans.{FarEnd, few, owned, past-absent, joined-exists, far-end}
use Rattle.state.proofs.Waits.{not-absent}
use Rattle.state.proofs.Times.{queue-times-left, queue-times-cases, queue-times-waits}
use Rattle.bench.specs.Round.{World, of_interrupt, of_time, told_word, nothing, sent_words, time_goes, sent_bytes, arrives, reached, after_timers, after_sending}
use Rattle.bench.proofs.Stepped.{goes-waits, post-time, sends-time}
use Rattle.bench.proofs.RoundSound.{taking, loses, takes, counts, is_new, arrives-any, arrives-sound}
use Rattle.laws.specs.Telling.{times}
use Rattle.laws.proofs.Apart.{sent-at}
use Rattle.laws.proofs.Telling.{once, times_more, times-other, falls-told}
use Rattle.flood.specs.Flood.{Net, Relays, here, cross}
use Rattle.assurance.specs.Distribution.{carrying, Crosses}
use Rattle.assurance.proofs.Taking.{took}
use Rattle.assurance.proofs.Choices.{runs-there, runs-joined}
use Rattle.assurance.proofs.Entering.{loses-unmoved, counts-turns}
use Rattle.assurance.proofs.Posted.{posts-sound, posts-runs, posts-time-gone, posts-time-on, posts-counter}

-- ---- of any state

-- a Time-Code goes out at a port of a device
abbrev pub GoesAt : Plan → State → ℕ → Type 0
GoesAt plan s q = (q < 8 * devices plan) × (time_goes s q ≡ true)

module _ (plan : Plan) (held : Held plan) (s : State) where
  -- where the byte of a Time-Code is sent, one goes
  pub byte-goes : (q : ℕ) → get_or (sent_bytes plan s) q nothing < 64 → GoesAt plan s q
  unfolding sent_bytes
  byte-goes q small =
      let n = few plan held in
      dite (dec_lt q (8 * devices plan)) (λ h. (h, sends-time s q (omega (arith, sent-at {k = 0} (omega arith) plan held s q h))))
      (λ n. dite (dec_lt q sent_words)
      (λ h. let none : get_or (sent_bytes plan s) q nothing ≡ nothing = get_d-table sent_words _ q nothing h ∙ rw (le-ltb q (8 * devices plan) (omega arith)) in absurd (omega arith))
      (λ h. let none : get_or (sent_bytes plan s) q nothing ≡ nothing = get_or-eq_default (sent_bytes plan s) nothing (rw length-table (omega arith)) in absurd (omega arith)))

  -- after sending what waited and did not go waits on, and nothing else
  pub left-waiting : Sound plan s → (q : ℕ) → q < 256
      → (time_waits (after_sending plan s).state q ≡ 0) ⊎ ((time_waits (after_sending plan s).state q ≡ time_waits s q) × (time_goes s q ≡ false))
  left-waiting x q h =
      dite (dec_lt q (8 * devices plan)) (λ i. by-test i (time_goes s q) refl)
      (λ n. inl (rw ((posts-sound plan held x).clock.no_word q h (past-absent plan held q h (omega arith)))))
    where
      by-test : q < 8 * devices plan → (t : Bool) → time_goes s q ≡ t
          → (time_waits (after_sending plan s).state q ≡ 0) ⊎ ((time_waits (after_sending plan s).state q ≡ time_waits s q) × (time_goes s q ≡ false))
      by-test i true g = inl (posts-time-gone plan held x q i g)
      by-test i false g = inr (posts-time-on plan held x q i g, g)

-- ---- where one Time-Code is about

-- s₀ : the state before the tick, whose running flags count. c : the counter there, v : the value of the tick
module _ (plan : Plan) (held : Held plan) (master : ℕ) (there : master < devices plan) (s₀ : State) (x₀ : Sound plan s₀) (c : ℕ) (c-small : c < 64) where
  abbrev v : ℕ
  v = next_time c

  abbrev N : Net
  N = carrying plan s₀ master

  -- a Time-Code gets to device e
  abbrev pub Gets : ℕ → Type 0
  Gets e = (n : ℕ) × Crosses plan master s₀ n e

  -- device e gets it, and sends it on
  abbrev pub Sends-on : ℕ → Type 0
  Sends-on e = Gets e × Relays N e

  pub gets-device : {n e : ℕ} → Crosses plan master s₀ n e → e < devices plan
  gets-device here = there
  gets-device (cross q w on leads) =
      let joined = runs-joined plan held x₀ q leads.0 leads.1 in
      let end : FarEnd plan q = far-end plan held q leads.0 (runs-there plan held x₀ q leads.0 leads.1) joined in
      rw leads.2 (owned plan held (peer plan q) joined end.far)

  -- a state in which no other Time-Code is about
  pub record Timely (s : State) : Type 0 where
    pub sound : Sound plan s
    pub runs : (q : ℕ) → q < 256 → running s q ≡ running s₀ q
    pub count : (e : ℕ) → Gets e → (counter s e ≡ c) ⊎ (counter s e ≡ v)
    pub only : (q : ℕ) → q < 256 → (time_waits s q ≡ 0) ⊎ ((time_waits s q ≡ v + 1) × Sends-on (q / 8))

  -- whether the value is there, as a number
  abbrev pub has : ℕ → ℕ
  has n = once n v

  module _ (s : State) (x : Timely s) where
    abbrev p : State
    p = (after_sending plan s).state

    -- ---- what is sent

    abbrev pub Goes : ℕ → Type 0
    Goes = GoesAt plan s

    pub goes-only : (q : ℕ) → Goes q → (time_waits s q ≡ v + 1) × Sends-on (q / 8)
    goes-only q g =
        let some = goes-waits s q g.1 in
        elim (x.only q (omega (arith, g.0, few plan held))) [ inl z ↦ absurd (omega arith) | inr y ↦ y ]

    -- its byte is the value
    pub sent-value : (q : ℕ) → Goes q → get_or (sent_bytes plan s) q nothing ≡ v
    sent-value q g = sent-at {k = 0} (omega arith) plan held s q g.0 ∙ post-time s q g.1 ∙ omega (arith, (goes-only q g).0)

    -- ---- after sending

    p-runs : (q : ℕ) → q < 256 → running p q ≡ running s₀ q
    p-runs q h = posts-runs plan held x.sound q h ∙ x.runs q h

    p-count : (e : ℕ) → e < 32 → counter p e ≡ counter s e
    p-count e h = posts-counter plan held x.sound e h

    -- ---- arrivals

    -- it comes to port j of device e
    pub record Came (e j : ℕ) : Type 0 where
      pub inside : j < 256
      pub here : j / 8 ≡ e
      pub sender : Goes (peer plan j)

    -- its sender leads there, so that device gets it
    pub came-leads : {e j : ℕ} → Came e j → (peer plan j < 256) × (running s₀ (peer plan j) ≡ 1) × (e ≡ peer plan (peer plan j) / 8)
    came-leads {e} {j} a =
        let far = a.sender.0 in
        let small : peer plan j < 256 = omega (arith, far, few plan held) in
        let w = (goes-only (peer plan j) a.sender).0 in
        let some : running s (peer plan j) ≢ 0 = λ z. omega (arith, x.sound.clock.stopped (peer plan j) small z) in
        let here-runs = runs_of (peer plan j) small some in
        let back = peer-back j a.inside small in
        (small, sym (x.runs (peer plan j) small) ∙ here-runs, rw back (sym a.here))
      where
        runs_of : (q : ℕ) → q < 256 → running s q ≢ 0 → running s q ≡ 1
        runs_of q h n =
            let there : exists plan q ≡ true = not-absent (exists plan q) (λ e. n (x.sound.no-port q running_at h e (omega arith))) in
            omega (arith, (x.sound.ports q h there).flag)

        peer-back : (j : ℕ) → j < 256 → peer plan j < 256 → peer plan (peer plan j) ≡ j
        peer-back j h l = (far-end plan held j h (joined-exists plan held j h l) l).back

    pub came-gets : {e j : ℕ} → Came e j → Gets e
    came-gets {e} {j} a =
        let y = (goes-only (peer plan j) a.sender).1 in
        (suc y.0.0, cross (peer plan j) y.0.1 y.1 (came-leads a))

    -- after some arrivals, from the sending on
    pub record Going (w : World) : Type 0 where
      pub sound : Sound plan w.state
      pub runs : (q : ℕ) → q < 256 → running w.state q ≡ running s₀ q
      pub late : (q : ℕ) → q < 256 → lately w.state q ≡ lately p q
      -- a counter is as it was, or the Time-Code came
      pub counted : (e : ℕ) → e < 32 → (counter w.state e ≡ counter p e) ⊎ ((counter w.state e ≡ v) × ((j : ℕ) × Came e j))
      -- what waits is as it was, or a router took the Time-Code in
      pub fresh : (q : ℕ) → q < 256 → (time_waits w.state q ≡ time_waits p q)
          ⊎ ((time_waits w.state q ≡ v + 1) × (counter p (q / 8) ≡ c) × (counter w.state (q / 8) ≡ v) × Gets (q / 8) × (router plan (q / 8) ≡ true))
      -- a router that took it in has it waiting at its ports, but where it came in
      pub relays : (q : ℕ) → q < 256 → router plan (q / 8) ≡ true → running s₀ q ≡ 1 → counter w.state (q / 8) ≡ v
          → (counter p (q / 8) ≡ v) ⊎ ((time_waits w.state q ≡ v + 1) ⊎ Goes (peer plan q))
      -- the host of a node is told of it where its counter takes the value
      pub told : (e : ℕ) → Gets e → router plan e ≡ false → times (told_word of_time e v) w.told + has (counter p e) ≡ has (counter w.state e)
      -- nobody else is told of it, and nobody of another
      pub untold : (e n : ℕ) → e < 32 → n < 64 → (n ≡ v → Gets e → router plan e ≡ false → ⊥) → times (told_word of_time e n) w.told ≡ 0

    -- who has it keeps it
    pub going-keeps : {w : World} → Going w → (e : ℕ) → e < 32 → counter p e ≡ v → counter w.state e ≡ v
    going-keeps y e h is = elim (y.counted e h) [ inl same ↦ same ∙ is | inr new ↦ new.0 ]

    -- a device that gets it has the old value or the new one
    pub going-count : {w : World} → Going w → (e : ℕ) → Gets e → (counter w.state e ≡ c) ⊎ (counter w.state e ≡ v)
    going-count y e get =
        let h : e < 32 = omega (arith, gets-device get.1, few plan held) in
        elim (y.counted e h) [
          | inl same ↦ elim (x.count e get) [ inl old ↦ inl (same ∙ p-count e h ∙ old) | inr new ↦ inr (same ∙ p-count e h ∙ new) ]
          | inr new ↦ inr new.0
        ]

    -- ---- one arrival

    -- words between the ports and the drops are as they were, and no word of a Time-Code is told
    going-same : {w u : World} → Going w → Sound plan u.state → ((q : ℕ) → q < 256 → running u.state q ≡ running w.state q)
        → ((i : ℕ) → ports_end ≤ i → i < drops_start → word u.state i ≡ word w.state i) → ((e n : ℕ) → times (told_word of_time e n) u.told ≡ times (told_word of_time e n) w.told) → Going u
    going-same y sound runs same told =
        let counts : (e : ℕ) → e < 32 → counter _ e ≡ counter _ e = λ e h. same (counter_at e) (omega arith) (omega arith) in
        let times : (q : ℕ) → q < 256 → time _ q ≡ time _ q = λ q h. same (time_at q) (omega arith) (omega arith) in
        record {
          sound = sound;
          runs = λ q h. runs q h ∙ y.runs q h;
          late = λ q h. ap (λ n. n / 128 % 2) (times q h) ∙ y.late q h;
          counted = λ e h. elim (y.counted e h) [ inl o ↦ inl (counts e h ∙ o) | inr o ↦ inr (counts e h ∙ o.0, o.1) ];
          fresh = λ q h. elim (y.fresh q h) [
            | inl o ↦ inl (ap (λ n. n % 128) (times q h) ∙ o)
            | inr o ↦ inr (ap (λ n. n % 128) (times q h) ∙ o.0, o.1, counts (q / 8) (omega arith) ∙ o.2, o.3, o.4)
          ];
          relays = λ q h r on is. elim (y.relays q h r on (sym (counts (q / 8) (omega arith)) ∙ is)) [
            | inl o ↦ inl o
            | inr o ↦ inr (elim o [ inl a ↦ inl (ap (λ n. n % 128) (times q h) ∙ a) | inr a ↦ inr a ])
          ];
          told = λ e get node. rw (told e v, counts e (omega (arith, gets-device get.1, few plan held))) (y.told e get node);
          untold = λ e n h l not. told e n ∙ y.untold e n h l not;
        }

    module _ (j : ℕ) (i : j < 8 * devices plan) (w : World) (y : Going w) where
      abbrev d : ℕ
      d = j / 8

      room : d < 32
      room = omega (arith, few plan held)

      small : j < 256
      small = omega (arith, few plan held)

      -- a code of an identifier
      taken-behind : (kind k : ℕ) → kind < 2 → k < 32 → (n : ℕ) → ports_end ≤ n → word (taking plan kind k d j (router plan d) w.state) n ≡ word w.state n
      taken-behind kind k g l = (took plan kind k g l d j room w.state y.sound.size (router plan d)).behind

      taken : (kind k : ℕ) → kind < 2 → k < 32 → Sound plan (takes plan kind k j (router plan d) w).state → Going (takes plan kind k j (router plan d) w)
      taken kind k g l sound =
          going-same y sound (λ q h. (took plan kind k g l d j room w.state y.sound.size (router plan d)).runs q)
          (λ n h o. taken-behind kind k g l n h) (λ e n. times-other (told_word of_time e n) (told_word (of_interrupt + kind) d k) (omega (arith, room)) (router plan d) w.told)

      -- one that is dropped
      lost : (kind : ℕ) → Sound plan (loses kind j w).state → Going (loses kind j w)
      lost kind sound =
          let left = (loses-unmoved kind j w).front in
          going-same y sound (λ q h. left (port_at q running_at) (omega arith)) (λ n h o. left n o) (λ e n. refl)

      -- the Time-Code: the counter takes its value
      abbrev t : State
      t = put w.state (counter_at d) v

      t-size : length t ≡ words
      t-size = length-put w.state (counter_at d) v ∙ y.sound.size

      t-other : (n : ℕ) → n ≢ counter_at d → word t n ≡ word w.state n
      t-other = word-other w.state (counter_at d) v

      t-here : counter t d ≡ v
      t-here = word_same w.state (counter_at d) v (omega (arith, room, y.sound.size))

      t-count : (e : ℕ) → e ≢ d → counter t e ≡ counter w.state e
      t-count e ne = t-other (counter_at e) (omega arith)

      module _ (came : Came d j) where
        -- it is there already: nothing changes
        again : counter w.state d ≡ v → t ≡ w.state
        again is = ap (put w.state (counter_at d)) (sym is) ∙ put_word w.state (counter_at d)

        not_new : counter w.state d ≡ v → is_new v j w ≡ false
        not_new is = ne_eqb v (next_time (counter w.state d)) (omega arith)

        new : counter w.state d ≡ c → is_new v j w ≡ true
        new is = eq-eqb v (next_time (counter w.state d)) (ap next_time (sym is))

        was-old : counter w.state d ≡ c → counter p d ≡ c
        was-old is =
            elim (y.counted d room) [ inl same ↦ sym same ∙ is | inr o ↦ absurd (omega (arith, o.0)) ]

        -- it is new: the counter takes the value, and the state behind that is u, with these words told
        module _ (is : counter w.state d ≡ c) (hands : Bool) (role : router plan d ≡ hands) where
          abbrev u : World
          u = counts true hands v j w

          u-left : (n : ℕ) → ((q : ℕ) → q < 256 → n ≢ time_at q) → word u.state n ≡ word t n
          u-left n out = by-test hands
            where
              by-test : (b : Bool) → word (cond b (queue_time_all v d j t) t) n ≡ word t n
              by-test true = queue-times-left n out v d j room t
              by-test false = refl

          u-count : (e : ℕ) → e < 32 → counter u.state e ≡ counter t e
          u-count e h = u-left (counter_at e) (λ q b. omega arith)

          u-waits : (q : ℕ) → q < 256 → (time_waits u.state q ≡ time_waits w.state q) ⊎ ((time_waits u.state q ≡ v + 1) × (q / 8 ≡ d) × (router plan d ≡ true))
          u-waits q h = by-test hands role
            where
              same : time_waits t q ≡ time_waits w.state q
              same = ap (λ n. n % 128) (t-other (time_at q) (omega (arith, room)))

              by-test : (b : Bool) → router plan d ≡ b
                  → (time_waits (cond b (queue_time_all v d j t) t) q ≡ time_waits w.state q) ⊎ ((time_waits (cond b (queue_time_all v d j t) t) q ≡ v + 1) × (q / 8 ≡ d) × (router plan d ≡ true))
              by-test false r = inl same
              by-test true r = elim (queue-times-cases v d j q (omega arith) h t t-size) [ inl o ↦ inl (o ∙ same) | inr o ↦ inr (o.0, o.1, r) ]

          u-all : (q : ℕ) → q < 256 → q / 8 ≡ d → router plan d ≡ true → running s₀ q ≡ 1 → q ≢ j → time_waits u.state q ≡ v + 1
          u-all q h own r on ne = by-test hands role
            where
              by-test : (b : Bool) → router plan d ≡ b → time_waits (cond b (queue_time_all v d j t) t) q ≡ v + 1
              by-test false f = absurd (false≢true (sym f ∙ r))
              by-test true f =
                  let at : 8 * d + q % 8 ≡ q = omega arith in
                  rw at at (queue-times-waits v d j (q % 8) (omega arith) room (omega arith) (λ e. ne (sym at ∙ e)) t t-size
                  (rw at (t-other (port_at q running_at) (omega (arith, room)) ∙ y.runs q h ∙ on)))

          u-told : (e : ℕ) → e < 32 → times (told_word of_time e v) u.told ≡ times (told_word of_time e v) w.told + cond (not hands) (once e d) 0
          u-told e h = by-test hands
            where
              alike : once (told_word of_time d v) (told_word of_time e v) ≡ once e d
              alike =
                  elim (ℕ_discrete e d) [
                    | yes o ↦ rw (eq-eqb e d o, eq-eqb (told_word of_time d v) (told_word of_time e v) (omega arith))
                    | no ne ↦ rw (ne_eqb e d ne, ne_eqb (told_word of_time d v) (told_word of_time e v) (omega arith))
                  ]

              by-test : (b : Bool) → times (told_word of_time e v) (cond (not b) (w.told ++ (told_word of_time d v ∷ [])) w.told) ≡ times (told_word of_time e v) w.told + cond (not b) (once e d) 0
              by-test true = omega arith
              by-test false = times_more (told_word of_time e v) w.told (told_word of_time d v) ∙ omega (arith, alike)

          u-late : (q : ℕ) → q < 256 → lately u.state q ≡ lately w.state q
          u-late q h = (counts-turns j small w y.sound.size q h true hands v (omega arith)).late

          u-here : counter u.state d ≡ v
          u-here = u-count d room ∙ t-here

          u-else : (e : ℕ) → e < 32 → e ≢ d → counter u.state e ≡ counter w.state e
          u-else e h ne = u-count e h ∙ t-count e ne

          going-new : Sound plan u.state → Going u
          going-new sound =
              record {
                sound = sound;
                runs = λ q h. u-left (port_at q running_at) (λ r b. omega arith) ∙ t-other (port_at q running_at) (omega (arith, room)) ∙ y.runs q h;
                late = λ q h. u-late q h ∙ y.late q h;
                counted = λ e h. elim (ℕ_discrete e d) [
                  | yes o ↦ rw o (inr (u-here, (j, came)))
                  | no ne ↦ elim (y.counted e h) [ inl same ↦ inl (u-else e h ne ∙ same) | inr o ↦ inr (u-else e h ne ∙ o.0, o.1) ]
                ];
                fresh = λ q h. elim (u-waits q h) [
                  | inl same ↦ elim (y.fresh q h) [ inl o ↦ inl (same ∙ o) | inr o ↦ inr (same ∙ o.0, o.1, has-now (q / 8) (omega arith) o.2, o.3, o.4) ]
                  | inr o ↦ inr (o.0, rw o.1 (was-old is), rw o.1 u-here, rw o.1 (came-gets came), rw o.1 o.2)
                ];
                relays = λ q h r on has. elim (ℕ_discrete (q / 8) d) [
                  | yes own ↦ elim (ℕ_discrete q j) [
                    | yes same ↦ inr (inr (rw same came.sender))
                    | no ne ↦ inr (inl (u-all q h own (rw own at r) on ne))
                  ]
                  | no ne ↦ elim (y.relays q h r on (sym (u-else (q / 8) (omega arith) ne) ∙ has)) [
                    | inl o ↦ inl o
                    | inr o ↦ inr (elim o [ inl a ↦ inl (waits-on q h a) | inr a ↦ inr a ])
                  ]
                ];
                told = telling;
                untold = λ e n h l not. tells-else hands role e n h l not ∙ y.untold e n h l not;
              }
            where
              tells-else : (b : Bool) → router plan d ≡ b → (e n : ℕ) → e < 32 → n < 64 → (n ≡ v → Gets e → router plan e ≡ false → ⊥)
                  → times (told_word of_time e n) (cond (not b) (w.told ++ (told_word of_time d v ∷ [])) w.told) ≡ times (told_word of_time e n) w.told
              tells-else true r e n h l not = refl
              tells-else false r e n h l not =
                  times-other (told_word of_time e n) (told_word of_time d v)
                  (λ same.
                  let own : e ≡ d = omega (arith, same, room) in
                  not (omega (arith, same, room)) (rw own (came-gets came)) (rw own r)) false w.told

              has-now : (e : ℕ) → e < 32 → counter w.state e ≡ v → counter u.state e ≡ v
              has-now e h o = elim (ℕ_discrete e d) [ yes own ↦ rw own u-here | no ne ↦ u-else e h ne ∙ o ]

              waits-on : (q : ℕ) → q < 256 → time_waits w.state q ≡ v + 1 → time_waits u.state q ≡ v + 1
              waits-on q h o = elim (u-waits q h) [ inl same ↦ same ∙ o | inr fresh ↦ fresh.0 ]

              telling : (e : ℕ) → Gets e → router plan e ≡ false → times (told_word of_time e v) u.told + has (counter p e) ≡ has (counter u.state e)
              telling e get node =
                  let h : e < 32 = omega (arith, gets-device get.1, few plan held) in
                  let before = y.told e get node in
                  elim (ℕ_discrete e d) [
                    | yes own ↦
                        let tells : hands ≡ false = sym role ∙ ap (router plan) (sym own) ∙ node in
                        let one : cond (not hands) (once e d) 0 ≡ 1 = rw (tells, eq-eqb e d own) in
                        let none : has (counter w.state e) ≡ 0 = rw (own, is, ne_eqb c v (omega arith)) in
                        let now : has (counter u.state e) ≡ 1 = rw (own, u-here, eq-eqb v v refl) in
                        omega (arith, u-told e h, one, before, none, now)
                    | no ne ↦
                        let none = rw (ne_eqb e d ne) at (u-told e h) in
                        rw (u-else e h ne) (by-role hands _ _ _ none before)
                  ]
                where
                  by-role : (b : Bool) (m n k : ℕ) → m ≡ n + cond (not b) 0 0 → n + has (counter p e) ≡ k → m + has (counter p e) ≡ k
                  by-role true m n k a o = omega arith
                  by-role false m n k a o = omega arith

        -- so the device has it then, whether it was new or not
        going-counts : Sound plan (counts (is_new v j w) (router plan d) v j w).state → Going (counts (is_new v j w) (router plan d) v j w)
        going-counts sound =
            elim (going-count y d (came-gets came)) [
              | inl old ↦ rw (new old) (going-new old (router plan d) refl (rw (new old) at sound))
              | inr is ↦ rw (not_new is, again is) y
            ]

        counts-here : counter (counts (is_new v j w) (router plan d) v j w).state d ≡ v
        counts-here =
            elim (going-count y d (came-gets came)) [
              | inl old ↦ rw (new old) (u-here old (router plan d) refl)
              | inr is ↦ rw (not_new is, again is) is
            ]

      -- whatever arrives
      pub going-arrives : Going (arrives plan (sent_bytes plan s) j w)
      going-arrives =
          let n = few plan held in
          arrives-any plan (sent_bytes plan s) j room w (λ u. Sound plan u.state → Going u) (λ none no big sound. y)
          (λ kind k g l e b sound. lost kind sound)
          (λ value h e sound.
          let g = byte-goes plan held s (peer plan j) (omega arith) in
          let is : value ≡ v = sym e ∙ sent-value (peer plan j) g in
          rw is (going-counts (record { inside = small; here = refl; sender = g }) (rw is at sound)))
          (λ kind k g l e o sound. taken kind k g l sound)
          (arrives-sound plan held (sent_bytes plan s) j (omega arith) w y.sound)

      -- who has it keeps it
      arrives-keeps : (e : ℕ) → e < 32 → counter w.state e ≡ v → counter (arrives plan (sent_bytes plan s) j w).state e ≡ v
      arrives-keeps e h is =
          arrives-any plan (sent_bytes plan s) j room w (λ u. counter u.state e ≡ v) (λ none no big. is)
          (λ kind k g l o b. (loses-unmoved kind j w).front (counter_at e) (omega arith) ∙ is)
          (λ value b o.
          let g = byte-goes plan held s (peer plan j) (omega arith) in
          let same : value ≡ v = sym o ∙ sent-value (peer plan j) g in
          rw same (by-test (is_new v j w && router plan d)))
          (λ kind k g l o m. taken-behind kind k g l (counter_at e) (omega arith) ∙ is)
        where
          has-it : counter t e ≡ v
          has-it = elim (ℕ_discrete e d) [ yes own ↦ rw own t-here | no ne ↦ t-count e ne ∙ is ]

          by-test : (b : Bool) → counter (cond b (queue_time_all v d j t) t) e ≡ v
          by-test true = queue-times-left (counter_at e) (λ q b. omega arith) v d j room t ∙ has-it
          by-test false = has-it

      arrives-here : Goes (peer plan j) → counter (arrives plan (sent_bytes plan s) j w).state d ≡ v
      arrives-here g =
          arrives-any plan (sent_bytes plan s) j room w (λ u. counter u.state d ≡ v) (λ none no big. absurd (omega (arith, sent-value (peer plan j) g)))
          (λ kind k f l e b. absurd (omega (arith, sent-value (peer plan j) g)))
          (λ value h e. let is : value ≡ v = sym e ∙ sent-value (peer plan j) g in rw is (counts-here (record { inside = small; here = refl; sender = g })))
          (λ kind k f l e o. absurd (omega (arith, sent-value (peer plan j) g)))

    -- ---- the round

    -- before the arrivals no host was told of a Time-Code
    first-told : (e n : ℕ) → times (told_word of_time e n) (after_timers plan s).told ≡ 0
    first-told e n = falls-told plan held s (told_word of_time e n) (λ d j a b. omega arith)

    going-first : Going (after_sending plan s)
    going-first =
        record {
          sound = posts-sound plan held x.sound;
          runs = p-runs;
          late = λ q h. refl;
          counted = λ e h. inl refl;
          fresh = λ q h. inl refl;
          relays = λ q h r on is. inl is;
          told = λ e get node. omega (arith, first-told e v);
          untold = λ e n h l not. first-told e n;
        }

    pub going : Going (reached plan (sent_bytes plan s) (after_sending plan s))
    unfolding reached
    going = keeps (arrives plan (sent_bytes plan s)) Going (8 * devices plan) (λ j u b y. going-arrives j b u y) (after_sending plan s) going-first

    -- what is sent gets in
    pub gets-in : (j : ℕ) → j < 8 * devices plan → Goes (peer plan j) → counter (reached plan (sent_bytes plan s) (after_sending plan s)).state (j / 8) ≡ v
    unfolding reached
    gets-in j i g =
        let n = few plan held in
        hit (arrives plan (sent_bytes plan s)) Going (8 * devices plan) (λ q u b y. going-arrives q b u y) (λ u. counter u.state (j / 8) ≡ v) j i
        (λ u y. arrives-here j i u y g) (λ q u a b y has. arrives-keeps q b u y (j / 8) (omega arith) has) (after_sending plan s) going-first
