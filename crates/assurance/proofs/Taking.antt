-- A device takes a code in: its bit goes over, its timer is loaded or stopped, and the code waits at its ports.
use mathlib.Core.Path.{◌≡◌, refl, sym, ap, ◌∙◌}
use mathlib.Core.Bool.{Bool, true, false, cond, false≢true}
use mathlib.Core.Logic.{◌⊎◌, inl, inr, ◌≢◌}
use Prim.Native.Nat.{ℕ, ◌+◌, ◌-◌, ◌*◌, ◌/◌, ◌%◌, ◌≤◌, ◌<◌}
use native.Mathlib.Decide.{ℕ_discrete}
use native.Mathlib.Omega.{arith}
use lib.Dec.{eqb}
use lib.ListN.{length}
use borrow.Author.Tests.{eqb-true, eq-eqb, ne_eqb}
use Rattle.lists.proofs.Loops.{keeps, hit}
use Rattle.lists.proofs.Tests.{and_left, and_right, both}
use Rattle.bits.specs.Set.{bit, join, leave}
use Rattle.bits.proofs.Sets.{join-same, leave_same}
use Rattle.device.specs.Permissions.{may_send}
use Rattle.device.specs.Reaction.{marked}
use Rattle.device.proofs.Reactions.{marked-same}
use Rattle.plan.specs.Fields.{nobody}
use Rattle.plan.specs.declared.Plan.{Plan}
use Rattle.state.specs.State.{State, words, word, put, register_at, timer_at, ports_at, ports_end, port_words, port_at, register, timer, waiting, next_at, next, running_at, running, time_at, lately}
use Rattle.state.specs.Network.{permissions, load_of}
use Rattle.state.specs.Queue.{sends_at, queue_at, queue_but, queue_all_at, queue_all}
use Rattle.state.specs.Mark.{loaded, mark}
use Rattle.state.proofs.Words.{length-put, word_same, word-other}
use Rattle.state.proofs.Keeping.{both-kinds}
use Rattle.state.proofs.Marks.{mark-other}
use Rattle.state.proofs.Waits.{queue-all-left}
use Rattle.calls.specs.Calls.{called}
use Rattle.bench.proofs.RoundSound.{taking}

module _ (plan : Plan) (kind k : ℕ) where
  -- port p, which had not queued the code: it is one of device d, it runs, and it may send the code
  pub record New (d : ℕ) (s : State) (p : ℕ) : Type 0 where
    pub here : p / 8 ≡ d
    pub runs : running s p ≡ 1
    pub may : may_send kind (permissions plan p) ≡ true

  -- the code was queued at some ports of device d
  record Spread (d : ℕ) (s t : State) : Type 0 where
    size : length t ≡ words
    turns : (p : ℕ) → next t p ≡ next s p
    runs : (p : ℕ) → running t p ≡ running s p
    other : (p : ℕ) → p < 256 → bit (waiting s (1 - kind) p) k ≡ 0 → bit (waiting t (1 - kind) p) k ≡ 0
    more : (p : ℕ) → p < 256 → bit (waiting s kind p) k ≡ 1 → bit (waiting t kind p) k ≡ 1
    fresh : (p : ℕ) → p < 256 → bit (waiting t kind p) k ≡ 1 → bit (waiting s kind p) k ≡ 1 ⊎ New d s p

  -- device d took the code in, and if it hands it on, queued it at its ports but one
  pub record Took (d but : ℕ) (hands : Bool) (s t : State) : Type 0 where
    pub turns : (p : ℕ) → next t p ≡ next s p
    pub runs : (p : ℕ) → running t p ≡ running s p
    pub behind : (i : ℕ) → ports_end ≤ i → word t i ≡ word s i
    pub other : (p : ℕ) → p < 256 → bit (waiting s (1 - kind) p) k ≡ 0 → bit (waiting t (1 - kind) p) k ≡ 0
    pub more : (p : ℕ) → p < 256 → bit (waiting s kind p) k ≡ 1 → bit (waiting t kind p) k ≡ 1
    pub held : bit (register t d) k ≡ 1 - kind
    pub timed : timer t d k ≡ cond (eqb kind 0) (load_of plan d k) 0
    pub others : (e : ℕ) → e < 32 → e ≢ d → (register t e ≡ register s e) × (timer t e k ≡ timer s e k)
    pub fresh : (p : ℕ) → p < 256 → bit (waiting t kind p) k ≡ 1 → bit (waiting s kind p) k ≡ 1 ⊎ ((hands ≡ true) × New d s p)
    pub all : (p : ℕ) → p < 256 → p ≢ but → hands ≡ true → New d s p → bit (waiting t kind p) k ≡ 1

-- whether the last code sent was a Time-Code stays
pub took-late : {plan : Plan} {kind k d but : ℕ} {hands : Bool} {s t : State} → Took plan kind k d but hands s t → (p : ℕ) → lately t p ≡ lately s p
took-late x p = ap (λ v. v / 128 % 2) (x.behind (time_at p) (omega arith))

-- ---- the code is queued

-- at port q, which runs and may send it
module _ (kind k q : ℕ) (t : State) where
  abbrev one : State
  one = put t (port_at q kind) (join (waiting t kind q) k)

  abbrev joined : State
  joined = put one (port_at q (1 - kind)) (leave (waiting t (1 - kind) q) k)

  joined-other : (i : ℕ) → i ≢ port_at q kind → i ≢ port_at q (1 - kind) → word joined i ≡ word t i
  joined-other i a b = word-other one (port_at q (1 - kind)) _ i b ∙ word-other t (port_at q kind) _ i a

  module _ (g : kind < 2) (l : k < 32) (h : q < 256) (size : length t ≡ words) where
    joined_in : bit (waiting joined kind q) k ≡ 1
    joined_in =
        ap (λ v. bit v k) (word-other one (port_at q (1 - kind)) _ (port_at q kind) (omega arith) ∙ word_same t (port_at q kind) _ (omega arith))
        ∙ join-same (waiting t kind q) k l

    joined-out : bit (waiting joined (1 - kind) q) k ≡ 0
    joined-out =
        ap (λ v. bit v k) (word_same one (port_at q (1 - kind)) _ (omega (arith, length-put t (port_at q kind) (join (waiting t kind q) k))))
        ∙ leave_same (waiting t (1 - kind) q) k l

module _ (plan : Plan) (kind k : ℕ) (g : kind < 2) (l : k < 32) where
  spread_none : (d : ℕ) (s : State) → length s ≡ words → Spread plan kind k d s s
  spread_none d s e =
      record { size = e; turns = λ p. refl; runs = λ p. refl; other = λ p h b. b; more = λ p h b. b; fresh = λ p h b. inl b }

  spread-joined : {d : ℕ} {s t : State} → Spread plan kind k d s t → (q : ℕ) → q < 256 → New plan kind k d s q → Spread plan kind k d s (joined kind k q t)
  spread-joined {d} {s} {t} x q h n =
      let away : (p i : ℕ) → 2 ≤ i → i < port_words → word (joined kind k q t) (port_at p i) ≡ word t (port_at p i) = λ p i a b. joined-other kind k q t (port_at p i) (omega arith) (omega arith) in
      let apart : (p i : ℕ) → p ≢ q → i < 2 → bit (waiting (joined kind k q t) i p) k ≡ bit (waiting t i p) k =
      λ p i ne b. ap (λ v. bit v k) (joined-other kind k q t (port_at p i) (omega arith) (omega arith)) in
      record {
        size = length-put _ _ _ ∙ length-put _ _ _ ∙ x.size;
        turns = λ p. away p next_at (omega arith) (omega arith) ∙ x.turns p;
        runs = λ p. away p running_at (omega arith) (omega arith) ∙ x.runs p;
        other = λ p m b. elim (ℕ_discrete p q) [
          | yes e ↦ rw e (joined-out kind k q t g l h x.size)
          | no ne ↦ apart p (1 - kind) ne (omega arith) ∙ x.other p m b
        ];
        more = λ p m b. elim (ℕ_discrete p q) [
          | yes e ↦ rw e (joined_in kind k q t g l h x.size)
          | no ne ↦ apart p kind ne g ∙ x.more p m b
        ];
        fresh = λ p m b. elim (ℕ_discrete p q) [
          | yes e ↦ inr (rw e n)
          | no ne ↦ x.fresh p m (sym (apart p kind ne g) ∙ b)
        ];
      }

  -- the port sends, and the code joins; or nothing changes
  queue-cases : (P : State → Type 0) (q : ℕ) (t : State) → P t → (running t q ≡ 1 → may_send kind (permissions plan q) ≡ true → P (joined kind k q t))
      → P (queue_at (permissions plan q) kind k q t)
  unfolding queue_at
  queue-cases P q t left taken = by-test (sends_at (permissions plan q) kind q t) refl
    where
      by-test : (b : Bool) → sends_at (permissions plan q) kind q t ≡ b → P (cond b (joined kind k q t) t)
      by-test false e = left
      by-test true e =
          taken (eqb-true (running t q) 1 (and_left (eqb (running t q) 1) (may_send kind (permissions plan q)) e))
          (and_right (eqb (running t q) 1) (may_send kind (permissions plan q)) e)

  -- ---- at all ports of device d but one

  module _ (d but : ℕ) (h : d < 32) where
    abbrev turn : ℕ → State → State
    turn = queue_but plan.core.permissions kind k d but

    turn-spreads : {s : State} (i : ℕ) (t : State) → i < 8 → Spread plan kind k d s t → Spread plan kind k d s (turn i t)
    turn-spreads {s} i t b x = by-test (eqb (8 * d + i) but)
      where
        by-test : (z : Bool) → Spread plan kind k d s (cond z t (queue_at (permissions plan (8 * d + i)) kind k (8 * d + i) t))
        by-test true = x
        by-test false =
            queue-cases (Spread plan kind k d s) (8 * d + i) t x
            (λ r m. spread-joined x (8 * d + i) (omega arith) (record { here = omega arith; runs = sym (x.runs (8 * d + i)) ∙ r; may = m }))

    module _ (s : State) (size : length s ≡ words) where
      all-spread : Spread plan kind k d s (queue_all plan kind k d but s)
      unfolding queue_all_at
      all-spread = keeps turn (Spread plan kind k d s) 8 (λ i t b x. turn-spreads i t b x) s (spread_none d s size)

      -- each port that runs and may send has it
      turn-joins : (p : ℕ) → p < 256 → p ≢ but → New plan kind k d s p → (t : State) → Spread plan kind k d s t → bit (waiting (turn (p % 8) t) kind p) k ≡ 1
      unfolding queue_at
      turn-joins p b ne n t x =
          let is : 8 * d + p % 8 ≡ p = omega (arith, n.here) in
          rw (is, ne_eqb p but ne, both (eqb (running t p) 1) (may_send kind (permissions plan p)) (eq-eqb (running t p) 1 (x.runs p ∙ n.runs)) n.may)
          (joined_in kind k p t g l b x.size)

      all-joined : (p : ℕ) → p < 256 → p ≢ but → New plan kind k d s p → bit (waiting (queue_all plan kind k d but s) kind p) k ≡ 1
      unfolding queue_all_at
      all-joined p b ne n =
          hit turn (Spread plan kind k d s) 8 (λ i t c x. turn-spreads i t c x) (λ t. bit (waiting t kind p) k ≡ 1) (p % 8) (omega arith)
          (turn-joins p b ne n) (λ i t c m x y. (turn-spreads i t m (spread_none d t x.size)).more p b y)
          s (spread_none d s size)

  -- ---- the device takes it in

  module _ (d but : ℕ) (h : d < 32) (s : State) (size : length s ≡ words) where
    abbrev marks : State
    marks = mark plan kind d k s

    marks-held : bit (register marks d) k ≡ 1 - kind
    unfolding mark
    marks-held =
        ap (λ v. bit v k) (word-other _ (timer_at d k) _ (register_at d) (omega arith) ∙ word_same s (register_at d) _ (omega arith))
        ∙ marked-same kind (register s d) k g l

    marks-timed : timer marks d k ≡ cond (eqb kind 0) (load_of plan d k) 0
    unfolding mark
    marks-timed =
        word_same _ (timer_at d k) _ (omega (arith, length-put s (register_at d) (marked kind (register s d) k)))
        ∙ both-kinds (λ c. loaded c (load_of plan d k) (timer s d k) ≡ cond (eqb c 0) (load_of plan d k) 0) refl refl kind g

    marks-size : length marks ≡ words
    unfolding mark
    marks-size = length-put _ _ _ ∙ length-put _ _ _ ∙ size

    marks-port : (p i : ℕ) → word marks (port_at p i) ≡ word s (port_at p i)
    marks-port p i = mark-other plan kind d k (port_at p i) s (omega arith) (omega arith)

    marks-new : (p : ℕ) → New plan kind k d s p → New plan kind k d marks p
    marks-new p n = record { here = n.here; runs = marks-port p running_at ∙ n.runs; may = n.may }

    new-marks : (p : ℕ) → New plan kind k d marks p → New plan kind k d s p
    new-marks p n = record { here = n.here; runs = sym (marks-port p running_at) ∙ n.runs; may = n.may }

    -- by what is queued after the mark
    took_by : (hands : Bool) (t : State) → Spread plan kind k d marks t → ((i : ℕ) → (ports_at ≤ i → i < ports_end → ⊥) → word t i ≡ word marks i)
        → ((p : ℕ) → p < 256 → bit (waiting t kind p) k ≡ 1 → bit (waiting marks kind p) k ≡ 1 ⊎ ((hands ≡ true) × New plan kind k d marks p))
        → ((p : ℕ) → p < 256 → p ≢ but → hands ≡ true → New plan kind k d marks p → bit (waiting t kind p) k ≡ 1)
        → Took plan kind k d but hands s t
    took_by hands t x left fresh all =
        let bits : (p i : ℕ) → bit (waiting marks i p) k ≡ bit (waiting s i p) k = λ p i. ap (λ v. bit v k) (marks-port p i) in
        record {
          turns = λ p. x.turns p ∙ marks-port p next_at;
          runs = λ p. x.runs p ∙ marks-port p running_at;
          behind = λ i b. left i (λ a c. omega arith) ∙ mark-other plan kind d k i s (omega arith) (omega arith);
          other = λ p b e. x.other p b (bits p (1 - kind) ∙ e);
          more = λ p b e. x.more p b (bits p kind ∙ e);
          held = ap (λ v. bit v k) (left (register_at d) (omega arith)) ∙ marks-held;
          timed = left (timer_at d k) (omega arith) ∙ marks-timed;
          others = λ e b ne. (
            left (register_at e) (omega arith) ∙ mark-other plan kind d k (register_at e) s (omega arith) (omega arith),
            left (timer_at e k) (omega arith) ∙ mark-other plan kind d k (timer_at e k) s (omega arith) (omega arith),
          );
          fresh = λ p b e. elim (fresh p b e) [ inl y ↦ inl (sym (bits p kind) ∙ y) | inr y ↦ inr (y.0, new-marks p y.1) ];
          all = λ p b ne e n. all p b ne e (marks-new p n);
        }

    pub took : (hands : Bool) → Took plan kind k d but hands s (taking plan kind k d but hands s)
    took false = took_by false marks (spread_none d marks marks-size) (λ i out. refl) (λ p b e. inl e) (λ p b ne e n. absurd (false≢true e))
    took true =
        let x = all-spread d but h marks marks-size in
        took_by true (queue_all plan kind k d but marks) x (λ i out. queue-all-left kind k i g out plan.core.permissions d but h marks)
        (λ p b e. elim (x.fresh p b e) [ inl y ↦ inl y | inr y ↦ inr (refl, y) ]) (λ p b ne e n. all-joined d but h marks marks-size p b ne n)

  -- a host's call is taken
  pub called-took : (d : ℕ) → d < 32 → (s : State) → length s ≡ words → Took plan kind k d nobody true s (called plan kind d k s)
  unfolding called
  called-took d h s size = took d nobody h s size true
