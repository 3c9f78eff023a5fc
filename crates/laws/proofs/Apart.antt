-- Identifiers share links, and only that way affect each other: what a round makes of one identifier comes from what concerned it, and from where it was sent.
use mathlib.Core.Path.{◌≡◌, refl, sym, ap, ◌∙◌}
use mathlib.Core.Bool.{Bool, true, false, cond}
use mathlib.Core.List.{List, []}
use mathlib.Core.Logic.{◌⊎◌, inl, inr, ◌≢◌}
use Prim.Native.Nat.{ℕ, suc, ◌+◌, ◌-◌, ◌*◌, ◌/◌, ◌%◌, ◌≤◌, ◌<◌}
use native.Mathlib.Decide.{ℕ_discrete}
use native.Mathlib.Omega.{arith}
use lib.Dec.{eqb}
use lib.ListN.{length, get_or}
use borrow.Author.Tests.{lt-ltb}
use Rattle.lists.proofs.Loops.{keeps, keeps-both}
use Rattle.lists.proofs.Tables.{get_d-table}
use Rattle.bits.specs.Set.{bit, join, leave}
use Rattle.std.specs.Prelude.{Option, Some, None}
use Rattle.bits.proofs.Sets.{join-same, join-other, leave_same, leave-other}
use Rattle.codes.specs.Codes.{byte_of, reads}
use Rattle.codes.specs.declared.Code.{Code}
use Rattle.codes.specs.declared.Code.TheVariants.{Time, Interrupt, Acknowledge, Reserved}
use Rattle.codes.proofs.BothWays.{Stands, stands, time, interrupt, acknowledge}
use Rattle.device.specs.Reaction.{marked, accepted, reacts_to, reacts}
use Rattle.device.specs.declared.Action.TheVariants.{Forwarded, Told}
use Rattle.device.specs.declared.Reaction.{Reaction}
use Rattle.device.specs.declared.Side.{Side}
use Rattle.device.proofs.Rule.{ruled-both}
use Rattle.device.proofs.Reactions.{marked-same, marked_other}
use Rattle.plan.specs.Fields.{nobody}
use Rattle.plan.specs.Reading.{Held}
use Rattle.plan.specs.declared.Plan.{Plan}
use Rattle.state.specs.State.{State, words, word, put, register_at, timer_at, port_at, register, timer, waiting, next_at, next, running_at, ports_end, counter_at, counter, drops_at}
use Rattle.state.specs.Network.{devices, router, peer, permissions, load_of}
use Rattle.state.specs.Sound.{Sound}
use Rattle.state.specs.Queue.{sends_at, queue_at, queue_but, queue_all_at}
use Rattle.state.specs.Mark.{loaded, mark}
use Rattle.calls.specs.Calls.{called, advanced}
use Rattle.calls.proofs.Called.{tick-left, tick-size}
use Rattle.bench.specs.Round.{World, nothing, sent_words, fall, time_goes, chosen, sends, unqueued, stamped, posts, timed, forwarded, lost, side_of, acted, arrived, fallen, sent_bytes, posted, arrives, reached, after_timers, after_sending, round}
use Rattle.laws.specs.Alike.{Alike, SendsIt, SendAlike}
use Rattle.state.proofs.Words.{length-put, word_same, word-other, put_word}
use Rattle.state.proofs.Plans.{few}
use Rattle.bench.proofs.Unqueued.{stamped-other, stamped-size}
use Rattle.bench.proofs.Falls.{ended, fall-cases}
use Rattle.bench.proofs.RoundSound.{after, arrives-cases}
use Rattle.bench.proofs.Stepped.{chosen-place, post-none, post-interrupt, post-acknowledge}
use Rattle.laws.proofs.Timers.{turn}

-- two whole states, alike in what concerns k
pub record Both (k : ℕ) (s t : State) : Type 0 where
  pub like : Alike k s t
  pub left : length s ≡ words
  pub right : length t ≡ words

back : {k : ℕ} {s t : State} → Both k s t → Both k t s
back p =
    record {
      like = record {
        marks = λ d h. sym (p.like.marks d h);
        timers = λ d h. sym (p.like.timers d h);
        waits = λ kind q g h. sym (p.like.waits kind q g h);
        runs = λ q h. sym (p.like.runs q h);
      };
      left = p.right;
      right = p.left;
    }

-- ---- words are put

module _ {k : ℕ} (l : k < 32) {s t : State} (p : Both k s t) where
  -- a look at word j, after words v and w are put at i
  seen : {X : Type 0} (look : ℕ → X) (i v w j : ℕ) → j < words → (j ≡ i → look v ≡ look w) → look (word s j) ≡ look (word t j)
      → look (word (put s i v) j) ≡ look (word (put t i w) j)
  seen look i v w j small new old =
      elim (ℕ_discrete j i) [
        | yes e ↦ rw (e, word_same s i v (omega (arith, p.left)), word_same t i w (omega (arith, p.right))) (new e)
        | no ne ↦ rw (word-other s i v j ne, word-other t i w j ne) old
      ]

  put_both : (i v w : ℕ) → ((d : ℕ) → d < 32 → register_at d ≡ i → bit v k ≡ bit w k) → ((d : ℕ) → d < 32 → timer_at d k ≡ i → v ≡ w)
      → ((kind q : ℕ) → kind < 2 → q < 256 → port_at q kind ≡ i → bit v k ≡ bit w k) → ((q : ℕ) → q < 256 → port_at q 3 ≡ i → v ≡ w)
      → Both k (put s i v) (put t i w)
  put_both i v w marks timers waits runs =
      record {
        like = record {
          marks = λ d h. seen (λ x. bit x k) i v w (register_at d) (omega arith) (marks d h) (p.like.marks d h);
          timers = λ d h. seen (λ x. x) i v w (timer_at d k) (omega arith) (timers d h) (p.like.timers d h);
          waits = λ kind q g h. seen (λ x. bit x k) i v w (port_at q kind) (omega arith) (waits kind q g h) (p.like.waits kind q g h);
          runs = λ q h. seen (λ x. x) i v w (port_at q 3) (omega arith) (runs q h) (p.like.runs q h);
        };
        left = length-put s i v ∙ p.left;
        right = length-put t i w ∙ p.right;
      }

  register-both : (d v w : ℕ) → d < 32 → bit v k ≡ bit w k → Both k (put s (register_at d) v) (put t (register_at d) w)
  register-both d v w h e =
      put_both (register_at d) v w (λ _ _ _. e) (λ f g o. absurd (omega arith)) (λ _ _ _ _ _. e) (λ q g o. absurd (omega arith))

  timer-both : (d j v w : ℕ) → d < 32 → j < 32 → (j ≡ k → v ≡ w) → Both k (put s (timer_at d j) v) (put t (timer_at d j) w)
  timer-both d j v w h m e =
      put_both (timer_at d j) v w (λ f g o. absurd (omega arith)) (λ f g o. e (omega arith)) (λ kind q a b o. absurd (omega arith)) (λ q g o. absurd (omega arith))

  waits-both : (kind q v w : ℕ) → kind < 2 → q < 256 → bit v k ≡ bit w k → Both k (put s (port_at q kind) v) (put t (port_at q kind) w)
  waits-both kind q v w g h e =
      put_both (port_at q kind) v w (λ _ _ _. e) (λ f a o. absurd (omega arith)) (λ _ _ _ _ _. e) (λ r a o. absurd (omega arith))

  next_both : (q v w : ℕ) → q < 256 → Both k (put s (port_at q next_at) v) (put t (port_at q next_at) w)
  next_both q v w h =
      put_both (port_at q next_at) v w (λ f g o. absurd (omega arith)) (λ f g o. absurd (omega arith)) (λ kind r a b o. absurd (omega arith)) (λ r a o. absurd (omega arith))

  -- a counter, or a port's Time-Codes
  behind-both : (i v w : ℕ) → ports_end ≤ i → Both k (put s i v) (put t i w)
  behind-both i v w h =
      put_both i v w (λ f g o. absurd (omega arith)) (λ f g o. absurd (omega arith)) (λ kind r a b o. absurd (omega arith)) (λ r a o. absurd (omega arith))

  -- a word that does not concern k is put into one of the two
  register-aside : (d v : ℕ) → d < 32 → bit v k ≡ bit (register t d) k → Both k (put s (register_at d) v) t
  register-aside d v h e = rw (put_word t (register_at d)) at (register-both d v (register t d) h e)

  timer-aside : (d j v : ℕ) → d < 32 → j < 32 → j ≢ k → Both k (put s (timer_at d j) v) t
  timer-aside d j v h m ne = rw (put_word t (timer_at d j)) at (timer-both d j v (timer t d j) h m (λ e. absurd (ne e)))

  waits-aside : (kind q v : ℕ) → kind < 2 → q < 256 → bit v k ≡ bit (waiting t kind q) k → Both k (put s (port_at q kind) v) t
  waits-aside kind q v g h e = rw (put_word t (port_at q kind)) at (waits-both kind q v (waiting t kind q) g h e)

  next-aside : (q v : ℕ) → q < 256 → Both k (put s (port_at q next_at) v) t
  next-aside q v h = rw (put_word t (port_at q next_at)) at (next_both q v (next t q) h)

  -- words behind the ports change
  front-aside : {u : State} → length u ≡ length s → ((i : ℕ) → i < ports_end → word u i ≡ word s i) → Both k u t
  front-aside size front =
      record {
        like = record {
          marks = λ d h. ap (λ x. bit x k) (front (register_at d) (omega arith)) ∙ p.like.marks d h;
          timers = λ d h. front (timer_at d k) (omega arith) ∙ p.like.timers d h;
          waits = λ kind q g h. ap (λ x. bit x k) (front (port_at q kind) (omega arith)) ∙ p.like.waits kind q g h;
          runs = λ q h. front (port_at q 3) (omega arith) ∙ p.like.runs q h;
        };
        left = size ∙ p.left;
        right = p.right;
      }

-- k leaves a set in both
left_both : {k : ℕ} → k < 32 → (x y : ℕ) → bit (leave x k) k ≡ bit (leave y k) k
left_both {k} l x y = leave_same x k l ∙ sym (leave_same y k l)

-- ---- 1. timers: those of another identifier, and its own

module _ {k : ℕ} (l : k < 32) (is_router : Bool) (d : ℕ) (h : d < 32) where
  fall-aside : (j : ℕ) → j < 32 → j ≢ k → (w : World) {t : State} → Both k w.state t → Both k (fall is_router d j w).state t
  fall-aside j m ne w {t} p =
      fall-cases is_router d j w (λ v. Both k v.state t) (λ e. p)
      (λ e. timer-aside l
      (register-aside l p d (leave (register w.state d) j) h (leave-other (register w.state d) j k l (λ o. ne (sym o)) ∙ p.like.marks d h))
      d j 0 h m ne)
      (λ n e. timer-aside l p d j (suc n) h m ne)

  fall-both : (w v : World) → Both k w.state v.state → Both k (fall is_router d k w).state (fall is_router d k v).state
  fall-both w v p =
      let e = p.like.timers d h in
      fall-cases is_router d k w (λ x. Both k x.state (fall is_router d k v).state)
      (λ a. fall-cases is_router d k v (λ y. Both k w.state y.state) (λ b. p) (λ b. absurd (omega arith)) (λ n b. absurd (omega arith)))
      (λ a. fall-cases is_router d k v (λ y. Both k (ended is_router d k w).state y.state) (λ b. absurd (omega arith))
      (λ b. timer-both l
      (register-both l p d (leave (register w.state d) k) (leave (register v.state d) k) h (left_both l (register w.state d) (register v.state d)))
      d k 0 0 h l (λ o. refl))
      (λ n b. absurd (omega arith)))
      (λ n a. fall-cases is_router d k v (λ y. Both k (put w.state (timer_at d k) (suc n)) y.state) (λ b. absurd (omega arith)) (λ b. absurd (omega arith))
      (λ m b. timer-both l p d k (suc n) (suc m) h l (λ o. omega arith)))

-- ---- 2. sending

module _ {k : ℕ} (l : k < 32) (q : ℕ) (h : q < 256) {s t : State} (p : Both k s t) where
  unqueued-aside : (old : State) → (chosen old q ≡ Some k → ⊥) → Both k (unqueued old q s) t
  unfolding unqueued
  unqueued-aside old not-k = by-choice (chosen old q) refl
    where
      by-choice : (c : Option ℕ) → chosen old q ≡ c → Both k (unqueued old q s) t
      by-choice None e = rw (e, unqueued) p
      by-choice (Some j) e =
          let ne : k ≢ j = λ o. not-k (e ∙ ap Some (sym o)) in
          let left : (kind : ℕ) → kind < 2 → bit (leave (waiting s kind q) j) k ≡ bit (waiting t kind q) k =
          λ kind g. leave-other (waiting s kind q) j k l ne ∙ p.like.waits kind q g h in
          rw (e, unqueued)
          (next-aside l
          (waits-aside l (waits-aside l p 0 q (leave (waiting s 0 q) j) (omega arith) h (left 0 (omega arith)))
          1 q (leave (waiting s 1 q) j) (omega arith) h (left 1 (omega arith)))
          q _ h)

  unqueued-both : (old new : State) → chosen old q ≡ Some k → chosen new q ≡ Some k → Both k (unqueued old q s) (unqueued new q t)
  unfolding unqueued
  unqueued-both old new a b =
      rw (a, b, unqueued)
      (next_both l
      (waits-both l (waits-both l p 0 q (leave (waiting s 0 q) k) (leave (waiting t 0 q) k) (omega arith) h (left_both l (waiting s 0 q) (waiting t 0 q)))
      1 q (leave (waiting s 1 q) k) (leave (waiting t 1 q) k) (omega arith) h (left_both l (waiting s 1 q) (waiting t 1 q)))
      q _ _ h)

-- what a port has of Time-Codes does not concern k
stamped-aside : {k : ℕ} → k < 32 → (b : Bool) (c : Option ℕ) (q : ℕ) {s t : State} → Both k s t → Both k (stamped b c q s) t
stamped-aside l b c q {s} p = front-aside l p (stamped-size b c q s) (λ i h. stamped-other b c q s i (omega arith))

stamped-both : {k : ℕ} → k < 32 → (g : Bool) (c : Option ℕ) (h : Bool) (e : Option ℕ) (q : ℕ) {s t : State} → Both k s t → Both k (stamped g c q s) (stamped h e q t)
stamped-both l g c h e q p = back (stamped-aside l h e q (back (stamped-aside l g c q p)))

-- ---- 3. arrivals

module _ {k : ℕ} (l : k < 32) {s t : State} (p : Both k s t) where
  queue-aside : (permissions kind j q : ℕ) → kind < 2 → q < 256 → j ≢ k → Both k (queue_at permissions kind j q s) t
  unfolding queue_at
  queue-aside permissions kind j q g h ne = by-test (sends_at permissions kind q s)
    where
      by-test : (b : Bool) → Both k (cond b (put (put s (port_at q kind) (join (waiting s kind q) j)) (port_at q (1 - kind)) (leave (waiting s (1 - kind) q) j)) s) t
      by-test false = p
      by-test true =
          waits-aside l
          (waits-aside l p kind q (join (waiting s kind q) j) g h (join-other (waiting s kind q) j k (λ o. ne (sym o)) ∙ p.like.waits kind q g h))
          (1 - kind) q (leave (waiting s (1 - kind) q) j) (omega arith) h
          (leave-other (waiting s (1 - kind) q) j k l (λ o. ne (sym o)) ∙ p.like.waits (1 - kind) q (omega arith) h)

  queue-both : (permissions kind q : ℕ) → kind < 2 → q < 256 → Both k (queue_at permissions kind k q s) (queue_at permissions kind k q t)
  unfolding queue_at
  queue-both permissions kind q g h = rw (p.like.runs q h) (by-test (sends_at permissions kind q t))
    where
      by-test : (b : Bool)
          → Both k (cond b (put (put s (port_at q kind) (join (waiting s kind q) k)) (port_at q (1 - kind)) (leave (waiting s (1 - kind) q) k)) s)
          (cond b (put (put t (port_at q kind) (join (waiting t kind q) k)) (port_at q (1 - kind)) (leave (waiting t (1 - kind) q) k)) t)
      by-test false = p
      by-test true =
          waits-both l
          (waits-both l p kind q (join (waiting s kind q) k) (join (waiting t kind q) k) g h
          (join-same (waiting s kind q) k l ∙ sym (join-same (waiting t kind q) k l)))
          (1 - kind) q (leave (waiting s (1 - kind) q) k) (leave (waiting t (1 - kind) q) k) (omega arith) h
          (left_both l (waiting s (1 - kind) q) (waiting t (1 - kind) q))

  mark-aside : (plan : Plan) (kind d j : ℕ) → d < 32 → j < 32 → j ≢ k → Both k (mark plan kind d j s) t
  unfolding mark
  mark-aside plan kind d j h m ne =
      timer-aside l
      (register-aside l p d (marked kind (register s d) j) h (marked_other kind (register s d) j k l (λ o. ne (sym o)) ∙ p.like.marks d h))
      d j _ h m ne

  mark-both : (plan : Plan) (kind d : ℕ) → kind < 2 → d < 32 → Both k (mark plan kind d k s) (mark plan kind d k t)
  unfolding mark
  mark-both plan kind d g h =
      timer-both l
      (register-both l p d (marked kind (register s d) k) (marked kind (register t d) k) h
      (marked-same kind (register s d) k g l ∙ sym (marked-same kind (register t d) k g l)))
      d k _ _ h l (λ o. ap (loaded kind (load_of plan d k)) (p.like.timers d h))

-- at every port of a device but one
module _ {k : ℕ} (l : k < 32) (permissions : List ℕ) (kind d but : ℕ) (g : kind < 2) (h : d < 32) {s t : State} (p : Both k s t) where
  queue-all-aside : (j : ℕ) → j ≢ k → Both k (queue_all_at permissions kind j d but s) t
  unfolding queue_all_at
  queue-all-aside j ne = keeps (queue_but permissions kind j d but) (λ u. Both k u t) 8 (λ i u m y. by-test i u m y (eqb (8 * d + i) but)) s p
    where
      by-test : (i : ℕ) (u : State) → i < 8 → Both k u t → (b : Bool) → Both k (cond b u (queue_at (get_or permissions (8 * d + i) 0) kind j (8 * d + i) u)) t
      by-test i u m y true = y
      by-test i u m y false = queue-aside l y (get_or permissions (8 * d + i) 0) kind j (8 * d + i) g (omega arith) ne

  queue-all-both : Both k (queue_all_at permissions kind k d but s) (queue_all_at permissions kind k d but t)
  unfolding queue_all_at
  queue-all-both =
      keeps-both (queue_but permissions kind k d but) (queue_but permissions kind k d but) (Both k) 8 (λ i u v m y. by-test i u v m y (eqb (8 * d + i) but)) s t p
    where
      by-test : (i : ℕ) (u v : State) → i < 8 → Both k u v → (b : Bool)
          → Both k (cond b u (queue_at (get_or permissions (8 * d + i) 0) kind k (8 * d + i) u)) (cond b v (queue_at (get_or permissions (8 * d + i) 0) kind k (8 * d + i) v))
      by-test i u v m y true = y
      by-test i u v m y false = queue-both l y (get_or permissions (8 * d + i) 0) kind (8 * d + i) g (omega arith)

-- a code of identifier k arrives at both: whether it is accepted is the same in both, and so is what follows
module _ {k : ℕ} (l : k < 32) (plan : Plan) (q : ℕ) (h : q < 256) where
  module _ (w v : World) (p : Both k w.state v.state) where
    -- what two reactions make of the two worlds is alike
    abbrev Follow : Reaction → Reaction → Type 0
    Follow x y = Both k (after plan q w x).state (after plan q v y).state

    -- the two registers, and the two counters
    abbrev a : ℕ
    a = register w.state (q / 8)

    abbrev b : ℕ
    b = register v.state (q / 8)

    abbrev m : ℕ
    m = counter w.state (q / 8)

    abbrev n : ℕ
    n = counter v.state (q / 8)

    -- they are put back as they were
    unchanged : Both k (put (put w.state (counter_at (q / 8)) m) (register_at (q / 8)) a) (put (put v.state (counter_at (q / 8)) n) (register_at (q / 8)) b)
    unchanged =
        register-both l (behind-both l p (counter_at (q / 8)) m n (omega arith)) (q / 8) a b (omega arith) (p.like.marks (q / 8) (omega arith))

    -- the code is dropped, and counted
    lost-both : (kind : ℕ) (x y : ℕ)
        → Both k (put (put (put w.state (counter_at (q / 8)) m) (register_at (q / 8)) a) (drops_at q kind) x) (put (put (put v.state (counter_at (q / 8)) n) (register_at (q / 8)) b) (drops_at q kind) y)
    lost-both kind x y = behind-both l unchanged (drops_at q kind) x y (omega arith)

    -- the code is accepted
    taken-both : (side : Side) (kind : ℕ) (code : Code) → kind < 2
        → ((u : State) → timed (load_of plan (q / 8)) (q / 8) code (put u (register_at (q / 8)) (marked kind (register u (q / 8)) k)) ≡ mark plan kind (q / 8) k u)
        → ((u : State) → forwarded plan.core.permissions q code u ≡ queue_all_at plan.core.permissions kind k (q / 8) q u)
        → Follow (accepted side a m kind k code) (accepted side b n kind k code)
    unfolding acted
    taken-both side kind code g marks queues = by-role side.router
      where
        both : Both k (mark plan kind (q / 8) k w.state) (mark plan kind (q / 8) k v.state)
        both = mark-both l p plan kind (q / 8) g (omega arith)

        by-role : (r : Bool)
            → Follow (record { register = marked kind a k; counter = m; action = cond r (Forwarded code) (Told code) })
            (record { register = marked kind b k; counter = n; action = cond r (Forwarded code) (Told code) })
        by-role true =
            rw (put_word w.state (counter_at (q / 8)), put_word v.state (counter_at (q / 8)), marks w.state, marks v.state, queues (mark plan kind (q / 8) k w.state), queues (mark plan kind (q / 8) k v.state))
            (queue-all-both l plan.core.permissions kind (q / 8) q g (omega arith) both)
        by-role false = rw (put_word w.state (counter_at (q / 8)), put_word v.state (counter_at (q / 8)), marks w.state, marks v.state) both

    reacts-both : (side : Side) (byte kind : ℕ) → kind < 2 → byte ≡ byte_of kind k → (code : Code) → Stands byte code
        → Follow (reacts_to side a m code) (reacts_to side b n code)
    unfolding reacts_to acted timed forwarded lost mark
    reacts-both side byte kind g e (Time v) (time h) = absurd (omega arith)
    reacts-both side byte kind g e (Reserved top low) c = unchanged
    reacts-both side byte kind g e (Interrupt j) (interrupt i o) =
        let is : j ≡ k = omega arith in
        rw is
        (ruled-both Follow side a b m n 0 k (Interrupt k) (p.like.marks (q / 8) (omega arith)) (λ n. unchanged) (λ n. unchanged) (λ n. lost-both 0 _ _)
        (λ o. taken-both side 0 (Interrupt k) (omega arith) (λ u. refl) (λ u. refl)))
    reacts-both side byte kind g e (Acknowledge j) (acknowledge i o) =
        let is : j ≡ k = omega arith in
        rw is
        (ruled-both Follow side a b m n 1 k (Acknowledge k) (p.like.marks (q / 8) (omega arith)) (λ n. unchanged) (λ n. unchanged) (λ n. lost-both 1 _ _)
        (λ o. taken-both side 1 (Acknowledge k) (omega arith) (λ u. refl) (λ u. refl)))

    arrives_both : (sent other : List ℕ) (kind : ℕ) → kind < 2 → get_or sent (peer plan q) nothing ≡ byte_of kind k
        → get_or other (peer plan q) nothing ≡ byte_of kind k
        → Both k (arrives plan sent q w).state (arrives plan other q v).state
    unfolding arrives arrived reacts
    arrives_both sent other kind g x y =
        let byte = byte_of kind k in
        rw (x, y, lt-ltb byte nothing (omega arith), p.like.runs q h)
        (reacts-both (side_of plan q v.state) byte kind g refl (reads byte) (stands byte))

  -- no code of k arrives
  pub arrives-aside : (sent : List ℕ) (w : World) {t : State} → Both k w.state t → ((kind : ℕ) → kind < 2 → get_or sent (peer plan q) nothing ≢ byte_of kind k)
      → Both k (arrives plan sent q w).state t
  arrives-aside sent w {t} p not-k =
      let other : (kind j : ℕ) → kind < 2 → get_or sent (peer plan q) nothing ≡ byte_of kind j → j ≢ k = λ kind j g e o. not-k kind g (omega arith) in
      let marks : (kind j : ℕ) → kind < 2 → j < 32 → get_or sent (peer plan q) nothing ≡ byte_of kind j → Both k (mark plan kind (q / 8) j w.state) t =
      λ kind j g m e. mark-aside l p plan kind (q / 8) j (omega arith) m (other kind j g e) in
      arrives-cases plan sent q (omega arith) w (λ v. Both k v.state t) (λ v b. front-aside l p b.size b.front)
      (λ kind j g m e. queue-all-aside l plan.core.permissions kind (q / 8) q g (omega arith) (marks kind j g m e) j (other kind j g e))
      marks

-- ---- what is sent

-- a byte is a code of k, or none
pub about : (k b : ℕ) → ((kind : ℕ) × (kind < 2) × (b ≡ byte_of kind k)) ⊎ ((kind : ℕ) → kind < 2 → b ≢ byte_of kind k)
about k b =
    elim (ℕ_discrete b (byte_of 0 k)) [
      | yes e ↦ inl (0, omega arith, omega arith)
      | no x ↦
          elim (ℕ_discrete b (byte_of 1 k)) [
            | yes e ↦ inl (1, omega arith, omega arith)
            | no y ↦ inr (λ kind g e. omega arith)
          ]
    ]

module _ {k : ℕ} (l : k < 32) (plan : Plan) (held : Held plan) (old : State) (q : ℕ) (h : q < 8 * devices plan) where
  pub sent-at : get_or (sent_bytes plan old) q nothing ≡ sends old q
  unfolding sent_bytes
  sent-at = get_d-table sent_words _ q nothing (omega (arith, few plan held)) ∙ rw (lt-ltb q (8 * devices plan) h)

  -- port q sends k where it chose k
  pub sends-chosen : (kind : ℕ) → kind < 2 → SendsIt plan k old kind q → chosen old q ≡ Some k
  sends-chosen kind g e = by-choice (chosen old q) refl
    where
      by-choice : (c : Option ℕ) → chosen old q ≡ c → chosen old q ≡ Some k
      by-choice None o = absurd (elim (post-none old q o) [ inl z ↦ omega (arith, sent-at, z) | inr z ↦ omega (arith, sent-at, z) ])
      by-choice (Some j) o =
          let place = chosen-place old q o in
          elim (ℕ_discrete (bit (waiting old 0 q) j) 1) [
            | yes y ↦ o ∙ ap Some (omega (arith, sent-at, post-interrupt old q o y))
            | no n ↦ o ∙ ap Some (omega (arith, sent-at, post-acknowledge old q o n))
          ]

  pub chosen-sends : chosen old q ≡ Some k → (kind : ℕ) × (kind < 2) × SendsIt plan k old kind q
  chosen-sends o =
      elim (ℕ_discrete (bit (waiting old 0 q) k) 1) [
        | yes y ↦ (0, omega arith, sent-at ∙ post-interrupt old q o y ∙ omega arith)
        | no n ↦ (1, omega arith, sent-at ∙ post-acknowledge old q o n ∙ omega arith)
      ]

-- ---- a round

module _ (plan : Plan) (held : Held plan) {k : ℕ} (l : k < 32) where
  fallen-both : (w v : World) → Both k w.state v.state → Both k (fallen plan w).state (fallen plan v).state
  unfolding fallen
  fallen-both w v p =
      let n = few plan held in
      keeps-both (turn plan) (turn plan) (λ x y. Both k x.state y.state) (32 * devices plan)
      (λ i x y b r. elim (ℕ_discrete (i % 32) k) [
        | yes e ↦ rw e (fall-both l (router plan (i / 32)) (i / 32) (omega arith) x y r)
        | no ne ↦
            let aside : (z : World) (u : State) → Both k z.state u → Both k (turn plan i z).state u =
            λ z u o. fall-aside l (router plan (i / 32)) (i / 32) (omega arith) (i % 32) (omega arith) ne z o in
            back (aside y (turn plan i x).state (back (aside x y.state r)))
      ])
      w v p

  module _ (s t : State) (same : SendAlike plan k s t) where
    posted-both : (u v : State) → Both k u v → Both k (posted plan s u) (posted plan t v)
    unfolding posted
    posted-both u v p =
        let n = few plan held in
        keeps-both (posts s) (posts t) (Both k) (8 * devices plan)
        (λ q x y b r. stamped-both l (time_goes s q) (chosen s q) (time_goes t q) (chosen t q) q (elim (about k (get_or (sent_bytes plan s) q nothing)) [
          | inl c ↦
              unqueued-both l q (omega arith) r s t
              (sends-chosen l plan held s q b c.0 c.1 c.2)
              (sends-chosen l plan held t q b c.0 c.1 ((same c.0 q c.1).0 c.2))
          | inr none ↦
              back
              (unqueued-aside l q (omega arith)
              (back (unqueued-aside l q (omega arith) r s (λ e. let c = chosen-sends l plan held s q b e in none c.0 c.1 c.2)))
              t (λ e. let c = chosen-sends l plan held t q b e in none c.0 c.1 ((same c.0 q c.1).1 c.2)))
        ]))
        u v p

    reached-both : (w v : World) → Both k w.state v.state → Both k (reached plan (sent_bytes plan s) w).state (reached plan (sent_bytes plan t) v).state
    unfolding reached
    reached-both w v p =
        let n = few plan held in
        keeps-both (arrives plan (sent_bytes plan s)) (arrives plan (sent_bytes plan t)) (λ x y. Both k x.state y.state) (8 * devices plan)
        (λ q x y b r. elim (about k (get_or (sent_bytes plan s) (peer plan q) nothing)) [
          | inl c ↦
              arrives_both l plan q (omega arith) x y r (sent_bytes plan s) (sent_bytes plan t) c.0 c.1
              c.2 ((same c.0 (peer plan q) c.1).0 c.2)
          | inr none ↦
              back
              (arrives-aside l plan q (omega arith) (sent_bytes plan t) y
              (back (arrives-aside l plan q (omega arith) (sent_bytes plan s) x r none))
              (λ kind g e. none kind g ((same kind (peer plan q) g).1 e)))
        ])
        w v p

pub identifiers-apart : (plan : Plan) → Held plan → (s t : State) → Sound plan s → Sound plan t → (k : ℕ) → k < 32 → Alike k s t → SendAlike plan k s t
    → Alike k (round plan s).next (round plan t).next
unfolding round
identifiers-apart plan held s t x y k l like same =
    let timers =
    fallen-both plan held l (record { state = s; told = [] }) (record { state = t; told = [] })
    (record { like = like; left = x.size; right = y.size }) in
    let posts = posted-both plan held l s t same (after_timers plan s).state (after_timers plan t).state timers in
    (reached-both plan held l s t same (after_sending plan s) (after_sending plan t) posts).like

-- ---- a call

-- what concerns an identifier stands in front of the counters
pub alike-front : (k : ℕ) → k < 32 → {s t : State} → ((i : ℕ) → i < ports_end → word s i ≡ word t i) → Alike k s t
alike-front k l front =
    record {
      marks = λ d h. ap (λ v. bit v k) (front (register_at d) (omega arith));
      timers = λ d h. front (timer_at d k) (omega arith);
      waits = λ kind q g h. ap (λ v. bit v k) (front (port_at q kind) (omega arith));
      runs = λ q h. front (port_at q running_at) (omega arith);
    }

pub alike_same : (k : ℕ) (s : State) → Alike k s s
alike_same k s = record { marks = λ d h. refl; timers = λ d h. refl; waits = λ kind q g h. refl; runs = λ q h. refl }

-- a tick changes nothing that concerns any identifier
pub tick-apart : (plan : Plan) → Held plan → (s : State) → Sound plan s → (k : ℕ) → k < 32 → (d : ℕ) → d < devices plan → Alike k s (advanced d s)
tick-apart plan held s x k l d h =
    let start : Both k s s = record { like = alike_same k s; left = x.size; right = x.size } in
    (back (front-aside l start (tick-size d s) (tick-left d (omega (arith, few plan held)) s))).like

-- a call for another identifier changes nothing that concerns k
pub call-apart : (plan : Plan) → Held plan → (s : State) → Sound plan s → (k : ℕ) → k < 32 → (kind d j : ℕ) → kind < 2 → d < devices plan → j < 32 → j ≢ k
    → Alike k s (called plan kind d j s)
unfolding called
call-apart plan held s x k l kind d j g h m ne =
    let own : d < 32 = omega (arith, few plan held) in
    let start : Both k s s = record { like = alike_same k s; left = x.size; right = x.size } in
    (back (queue-all-aside l plan.core.permissions kind d nobody g own (mark-aside l start plan kind d j own m ne) j ne)).like
