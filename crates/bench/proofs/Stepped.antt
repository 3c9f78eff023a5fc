-- What each step of a round does to a world, in the cases that the code tells apart.
use mathlib.Core.Path.{◌≡◌, refl, sym, ap, ◌∙◌}
use mathlib.Core.Bool.{Bool, true, false, cond, false≢true}
use mathlib.Core.List.{List, [], ◌∷◌, ◌++◌}
use mathlib.Core.Logic.{◌⊎◌, inl, inr, ◌≢◌}
use Prim.Native.Nat.{ℕ, zero, suc, ◌+◌, ◌-◌, ◌/◌, ◌%◌, ◌≤◌, ◌<◌}
use native.Mathlib.Decide.{ℕ_discrete}
use native.Mathlib.Omega.{arith}
use lib.Bits.{bit_or}
use lib.ListN.{get_or}
use borrow.Author.Tests.{eq-eqb, ne_eqb, eqb-true, eqb-false, lt-ltb, le-ltb}
use Rattle.bits.specs.Set.{bit, leave}
use Rattle.bits.specs.First.{Finds, following}
use Rattle.std.specs.Prelude.{Option, Some, None}
use Rattle.bits.proofs.Sets.{bit-zero}
use Rattle.bits.proofs.Firsts.{first-unique, first_from-finds}
use Rattle.codes.specs.Codes.{byte_of}
use Rattle.codes.specs.declared.Code.{Code}
use Rattle.device.specs.Reaction.{reacts}
use Rattle.device.specs.declared.Reaction.{Reaction}
use Rattle.device.specs.declared.Action.TheVariants.{Forwarded, Told, Dropped}
use Rattle.plan.specs.declared.Plan.{Plan}
use Rattle.state.specs.State.{State, put, word, register_at, timer_at, port_at, register, timer, waiting, next_at, next, counter_at, counter, time_at, time_waits, lately}
use Rattle.state.specs.Network.{router, peer, load_of}
use Rattle.bench.specs.Round.{World, nothing, of_timeout, told_word, fall, first_waits, goes, time_goes, chosen, sent_word, sends, unqueued, stamped, posts, timed, forwarded, lost, tells, side_at, acted, arrived, arrives}
use Rattle.state.proofs.Words.{word-other}
use Rattle.bench.proofs.Following.{world}

-- ---- 1. timers

module _ (is_router : Bool) (d k : ℕ) (s : State) (told : List ℕ) where
  pub fall-idle : timer s d k ≡ 0 → fall is_router d k (world s told) ≡ world s told
  unfolding fall
  fall-idle e = rw (e, fall)

  pub fall-on : (timer s d k ≡ 0 → ⊥) → (timer s d k ≡ 1 → ⊥) → fall is_router d k (world s told) ≡ world (put s (timer_at d k) (timer s d k - 1)) told
  unfolding fall
  fall-on p q = by_left (timer s d k) refl
    where
      by_left : (t : ℕ) → timer s d k ≡ t → fall is_router d k (world s told) ≡ world (put s (timer_at d k) (timer s d k - 1)) told
      by_left zero e = absurd (p e)
      by_left (suc zero) e = absurd (q e)
      by_left (suc (suc t)) e = rw (e, ne_eqb (suc t) 0 (omega arith), fall) (ap (λ (v : ℕ). world (put s (timer_at d k) v) told) (omega arith))

  -- the bit is cleared
  module _ (r : ℕ) (e : timer s d k ≡ 1) (is : r ≡ leave (register s d) k) where
    pub fall_ends : is_router ≡ true → fall is_router d k (world s told) ≡ world (put (put s (register_at d) r) (timer_at d k) 0) told
    unfolding fall
    fall_ends h = rw (e, h, is, fall)

    pub fall-tells : is_router ≡ false → fall is_router d k (world s told) ≡ world (put (put s (register_at d) r) (timer_at d k) 0) (told ++ (told_word of_timeout d k ∷ []))
    unfolding fall
    fall-tells h = rw (e, h, is, fall)

-- ---- 2. sending

-- a code that is found is not found nowhere
pub not-nowhere : {k : ℕ} → None ≡ Some k → ⊥
not-nowhere e = let z : ◌≡◌ {A = ℕ} 0 1 = cc in omega arith

-- a Time-Code that goes waits
pub some-waits : (waits late : ℕ) (other : Option ℕ) → goes waits late other ≡ true → 1 ≤ waits
unfolding goes
some-waits zero late other e = absurd (false≢true e)
some-waits (suc v) late other e = omega arith

module _ (old : State) (q : ℕ) where
  -- what the code finds
  pub first-is : {r : Option ℕ} → Finds (bit_or (waiting old 0 q) (waiting old 1 q)) (next old q) r → r ≡ first_waits old q
  unfolding first_waits
  first-is f = first-unique _ _ _ _ f (first_from-finds _ _)

  pub first_finds : Finds (bit_or (waiting old 0 q) (waiting old 1 q)) (next old q) (first_waits old q)
  unfolding first_waits
  first_finds = first_from-finds (bit_or (waiting old 0 q) (waiting old 1 q)) (next old q)

  -- an identifier is chosen where it is the first and no Time-Code goes
  pub chosen-first : {k : ℕ} → chosen old q ≡ Some k → (time_goes old q ≡ false) × (first_waits old q ≡ Some k)
  unfolding chosen
  chosen-first {k} = by-test (time_goes old q) refl
    where
      by-test : (t : Bool) → time_goes old q ≡ t → cond t None (first_waits old q) ≡ Some k → (time_goes old q ≡ false) × (first_waits old q ≡ Some k)
      by-test true g e = absurd (not-nowhere e)
      by-test false g e = (g, e)

  pub first-chosen : time_goes old q ≡ false → chosen old q ≡ first_waits old q
  unfolding chosen
  first-chosen g = rw g

  pub time-chosen : time_goes old q ≡ true → chosen old q ≡ None
  unfolding chosen
  time-chosen g = rw g

  pub chosen-place : {k : ℕ} → chosen old q ≡ Some k → k < 32
  unfolding Finds
  chosen-place {k} e =
      let f : Finds (bit_or (waiting old 0 q) (waiting old 1 q)) (next old q) (Some k) = rw (chosen-first e).1 at first_finds in
      f.place

  -- nothing waits
  first-none : ((kind : ℕ) → kind < 2 → waiting old kind q ≡ 0) → first_waits old q ≡ None
  unfolding first_waits Finds
  first-none h =
      rw (h 0 (omega arith), h 1 (omega arith)) (first-unique 0 (next old q) _ None (first_from-finds 0 (next old q)) (λ k l. bit-zero k))

  pub goes-not : time_waits old q ≡ 0 → time_goes old q ≡ false
  unfolding time_goes goes
  goes-not e = rw (e, goes)

  -- what goes waits
  pub goes-waits : time_goes old q ≡ true → 1 ≤ time_waits old q
  unfolding time_goes
  goes-waits = some-waits (time_waits old q) (lately old q) (first_waits old q)

  -- what waits and does not go has another code before it, and the last one sent was a Time-Code
  pub goes-late : 1 ≤ time_waits old q → time_goes old q ≡ false → (k : ℕ) × (chosen old q ≡ Some k) × (lately old q ≢ 0)
  unfolding time_goes goes
  goes-late some g = by_first (time_waits old q) (first_waits old q) some refl g
    where
      by_first : (n : ℕ) (c : Option ℕ) → 1 ≤ n → first_waits old q ≡ c → goes n (lately old q) c ≡ false → (k : ℕ) × (chosen old q ≡ Some k) × (lately old q ≢ 0)
      by_first zero c o e f = absurd (omega arith)
      by_first (suc v) None o e f = absurd (false≢true (sym f))
      by_first (suc v) (Some k) o e f = (k, first-chosen g ∙ e, eqb-false (lately old q) 0 f)

  -- where something else waits, a Time-Code goes only if the last code sent was none
  pub goes-early : {k : ℕ} → time_goes old q ≡ true → first_waits old q ≡ Some k → lately old q ≡ 0
  unfolding time_goes goes
  goes-early {k} g e = by-waits (time_waits old q) (rw e at g)
    where
      by-waits : (n : ℕ) → goes n (lately old q) (Some k) ≡ true → lately old q ≡ 0
      by-waits zero o = absurd (false≢true o)
      by-waits (suc v) o = eqb-true (lately old q) 0 o

  -- and then it does; after one, it does not
  pub goes_first : {k : ℕ} → 1 ≤ time_waits old q → lately old q ≡ 0 → first_waits old q ≡ Some k → time_goes old q ≡ true
  unfolding time_goes goes
  goes_first {k} some none e = rw e (by-waits (time_waits old q) some)
    where
      by-waits : (n : ℕ) → 1 ≤ n → goes n (lately old q) (Some k) ≡ true
      by-waits zero o = absurd (omega arith)
      by-waits (suc v) o = eq-eqb (lately old q) 0 none

  pub goes-second : {k : ℕ} → lately old q ≡ 1 → first_waits old q ≡ Some k → time_goes old q ≡ false
  unfolding time_goes goes
  goes-second {k} one e = rw e (by-waits (time_waits old q))
    where
      by-waits : (n : ℕ) → goes n (lately old q) (Some k) ≡ false
      by-waits zero = refl
      by-waits (suc v) = ne_eqb (lately old q) 0 (omega arith)

  pub chosen_none : ((kind : ℕ) → kind < 2 → waiting old kind q ≡ 0) → chosen old q ≡ None
  unfolding chosen
  chosen_none h = by-test (time_goes old q)
    where
      by-test : (t : Bool) → cond t None (first_waits old q) ≡ None
      by-test true = refl
      by-test false = first-none h

  -- a Time-Code goes
  pub post-time : time_goes old q ≡ true → sends old q ≡ (time_waits old q - 1) % 64
  unfolding sends
  post-time g = rw g

  pub post-stamps : (s : State) → time_goes old q ≡ true → posts old q s ≡ put s (time_at q) 128
  unfolding unqueued stamped
  post-stamps s g = rw (time-chosen g, g, stamped, unqueued)

  -- nothing goes
  module _ (g : time_goes old q ≡ false) (e : chosen old q ≡ None) where
    pub post-nothing : sends old q ≡ nothing
    unfolding sends sent_word
    post-nothing = rw (g, e, sent_word)

    pub post-same : (s : State) → posts old q s ≡ s
    unfolding unqueued stamped
    post-same s = ap (stamped (time_goes old q) (chosen old q) q) leaves ∙ rw (g, e, stamped)
      where
        leaves : unqueued old q s ≡ s
        leaves = rw (e, unqueued)

  -- no identifier is sent: what is sent is nothing, or the byte of a Time-Code
  pub post-none : chosen old q ≡ None → (sends old q ≡ nothing) ⊎ (sends old q < 64)
  post-none e = by-test (time_goes old q) refl
    where
      by-test : (t : Bool) → time_goes old q ≡ t → (sends old q ≡ nothing) ⊎ (sends old q < 64)
      by-test true g = inr (omega (arith, post-time g))
      by-test false g = inl (post-nothing g e)

  module _ {k : ℕ} (e : chosen old q ≡ Some k) where
    -- the word of what was chosen
    post-chosen : sends old q ≡ sent_word (waiting old 0 q) (Some k)
    unfolding sends
    post-chosen = rw ((chosen-first e).0, e)

    pub post-interrupt : bit (waiting old 0 q) k ≡ 1 → sends old q ≡ byte_of 0 k
    unfolding sent_word
    post-interrupt h = post-chosen ∙ rw (eq-eqb _ _ h)

    pub post-acknowledge : (bit (waiting old 0 q) k ≡ 1 → ⊥) → sends old q ≡ byte_of 1 k
    unfolding sent_word
    post-acknowledge h = post-chosen ∙ rw (ne_eqb _ _ h)

    -- the code reads the second set after it has put the first, and the Time-Codes last
    pub post-leaves : (s : State) (a b : ℕ) → a ≡ leave (waiting s 0 q) k → b ≡ leave (word (put s (port_at q 0) a) (port_at q 1)) k
        → let t = put (put (put s (port_at q 0) a) (port_at q 1) b) (port_at q next_at) ((k + 1) % 32) in posts old q s ≡ put t (time_at q) (time_waits t q)
    unfolding unqueued following stamped
    post-leaves s a b p o =
        let l : b ≡ leave (waiting s 1 q) k = o ∙ ap (λ (v : ℕ). leave v k) (word-other s (port_at q 0) a (port_at q 1) (omega arith)) in
        ap (stamped (time_goes old q) (chosen old q) q) (leaves l) ∙ rw ((chosen-first e).0, e, stamped)
      where
        leaves : b ≡ leave (waiting s 1 q) k → unqueued old q s ≡ put (put (put s (port_at q 0) a) (port_at q 1) b) (port_at q next_at) ((k + 1) % 32)
        leaves l = rw (e, p, l, unqueued)

  -- a byte below 64 is that of a Time-Code
  pub sends-time : sends old q < 64 → time_goes old q ≡ true
  sends-time small = by-test (time_goes old q) refl
    where
      by-choice : time_goes old q ≡ false → (c : Option ℕ) → chosen old q ≡ c → ⊥
      by-choice g None e = omega (arith, post-nothing g e)
      by-choice g (Some k) e =
          elim (ℕ_discrete (bit (waiting old 0 q) k) 1) [
            | yes y ↦ omega (arith, post-interrupt e y)
            | no n ↦ omega (arith, post-acknowledge e n)
          ]

      by-test : (t : Bool) → time_goes old q ≡ t → time_goes old q ≡ true
      by-test true g = g
      by-test false g = absurd (by-choice g (chosen old q) refl)

-- ---- 3. arrivals

module _ (load : ℕ → ℕ) (permissions : List ℕ) (q : ℕ) (s : State) where
  pub acted-forwards : (code : Code) (t u : State) (told : List ℕ) → t ≡ timed load (q / 8) code s → u ≡ forwarded permissions q code t
      → acted load permissions q (Forwarded code) (world s told) ≡ world u told
  unfolding acted
  acted-forwards code t u told e h = rw (h, e)

  pub acted-tells : (code : Code) (t : State) (told : List ℕ) → t ≡ timed load (q / 8) code s
      → acted load permissions q (Told code) (world s told) ≡ world t (told ++ tells (q / 8) code)
  unfolding acted
  acted-tells code t told e = rw e

  pub acted-loses : (code : Code) (t : State) (told : List ℕ) → t ≡ lost q code s → acted load permissions q (Dropped code) (world s told) ≡ world t told
  unfolding acted
  acted-loses code t told e = rw e

  pub arrived-acts : (barred : List ℕ) (is_router : Bool) (events byte : ℕ) (r : Reaction) (told : List ℕ)
      → r ≡ reacts (side_at is_router permissions barred events q s) (register s (q / 8)) (counter s (q / 8)) byte
      → arrived load permissions q barred is_router events byte (world s told)
      ≡ acted load permissions q r.action (world (put (put s (counter_at (q / 8)) r.counter) (register_at (q / 8)) r.register) told)
  unfolding arrived
  arrived-acts barred is_router events byte r told e =
      ap (λ (x : Reaction). acted load permissions q x.action (world (put (put s (counter_at (q / 8)) x.counter) (register_at (q / 8)) x.register) told)) (sym e)

module _ (plan : Plan) (sent : List ℕ) (q byte : ℕ) (e : byte ≡ get_or sent (peer plan q) nothing) (w : World) where
  pub arrives-nothing : nothing ≤ byte → arrives plan sent q w ≡ w
  unfolding arrives
  arrives-nothing h = rw (← e, le-ltb byte nothing h, arrives)

  pub arrives-byte : byte < nothing → arrives plan sent q w ≡ arrived (load_of plan (q / 8)) plan.core.permissions q plan.barred (router plan (q / 8)) plan.core.events byte w
  unfolding arrives
  arrives-byte h = rw (← e, lt-ltb byte nothing h, arrives)
