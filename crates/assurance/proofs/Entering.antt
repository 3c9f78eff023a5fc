-- What arrives at a port: a code that its device takes in or not; and whatever it is, a Time-Code too, every port keeps its turn.
use mathlib.Core.Path.{◌≡◌, refl, ap, ◌∙◌}
use mathlib.Core.Bool.{Bool, true, false, cond, ◌&&◌}
use mathlib.Core.List.{List}
use Prim.Native.Nat.{ℕ, ◌/◌, ◌%◌, ◌<◌}
use native.Mathlib.Omega.{arith}
use lib.ListN.{length, get_or}
use Rattle.codes.specs.Codes.{byte_of}
use Rattle.plan.specs.declared.Plan.{Plan}
use Rattle.state.specs.State.{State, words, word, put, port_at, next_at, counter_at, time_at, drops_start, drops_at, drops}
use Rattle.state.specs.Network.{router, peer}
use Rattle.state.specs.Queue.{queue_time_all}
use Rattle.state.proofs.Words.{length-put, word-other}
use Rattle.state.proofs.Times.{queue-times-left, queue-times-lately}
use Rattle.bench.specs.Round.{World, nothing, one_more, arrives}
use Rattle.bench.proofs.RoundSound.{Opens, loses, taking, counts, is_new, arrives-any, bars-not-opens}
use Rattle.assurance.proofs.Taking.{took, took-late}
use Rattle.assurance.proofs.Turns.{SameTurn, turn-same, turn-then}

-- ---- a code that is dropped

-- no word in front of the drops changes
pub record Unmoved (s t : State) : Type 0 where
  pub size : length t ≡ length s
  pub front : (i : ℕ) → i < drops_start → word t i ≡ word s i

unmoved-same : (s : State) → Unmoved s s
unmoved-same s = record { size = refl; front = λ i h. refl }

pub loses-unmoved : (kind q : ℕ) (w : World) → Unmoved w.state (loses kind q w).state
loses-unmoved kind q w =
    let n = one_more (drops w.state kind q) in
    record { size = length-put w.state (drops_at q kind) n; front = λ i h. word-other w.state (drops_at q kind) n i (omega arith) }

pub unmoved-turn : {s t : State} → Unmoved s t → (p : ℕ) → p < 256 → SameTurn s t p
unmoved-turn x p small = record { start = x.front (port_at p next_at) (omega arith); late = ap (λ n. n / 128 % 2) (x.front (time_at p) (omega arith)) }

-- ---- what arrives

-- a code of identifier k arrives
module _ (plan : Plan) (q : ℕ) (small : q / 8 < 32) (w : World) (k : ℕ) (P : State → Type 0) (sent : List ℕ) (l : k < 32) where
  pub arrives-meets : (kind : ℕ) → kind < 2 → get_or sent (peer plan q) nothing ≡ byte_of kind k → ((Opens plan kind k q w.state → ⊥) → (t : State) → Unmoved w.state t → P t)
      → (Opens plan kind k q w.state → P (taking plan kind k (q / 8) q (router plan (q / 8)) w.state)) → P (arrives plan sent q w).state
  arrives-meets kind g e refused taken =
      arrives-any plan sent q small w (λ v. P v.state) (λ none no big. refused (none kind k g l e) w.state (unmoved-same w.state))
      (λ c j f m o b.
      let x : kind ≡ c = omega arith in
      let y : k ≡ j = omega arith in
      refused (λ o. bars-not-opens b (rw (x, y) at o)) (loses c q w).state (loses-unmoved c q w)) (λ v h o. absurd (omega arith))
      (λ c j f m o y.
      let a : c ≡ kind = omega arith in
      let b : j ≡ k = omega arith in
      rw (a, b) (taken (rw (a, b) at y)))

-- a Time-Code that is counted leaves every port its turn
module _ (q : ℕ) (h : q < 256) (w : World) (size : length w.state ≡ words) (p : ℕ) (small : p < 256) where
  pub counts-turns : (new hands : Bool) (v : ℕ) → v < 64 → SameTurn w.state (counts new hands v q w).state p
  counts-turns new hands v l = by-test (new && hands)
    where
      t : State
      t = put w.state (counter_at (q / 8)) v

      left : SameTurn w.state t p
      left =
          record {
            start = word-other w.state (counter_at (q / 8)) v (port_at p next_at) (omega arith);
            late = ap (λ x. x / 128 % 2) (word-other w.state (counter_at (q / 8)) v (time_at p) (omega arith));
          }

      by-test : (b : Bool) → SameTurn w.state (cond b (queue_time_all v (q / 8) q t) t) p
      by-test false = left
      by-test true =
          turn-then left
          (record {
            start = queue-times-left (port_at p next_at) (λ j m. omega arith) v (q / 8) q (omega arith) t;
            late = queue-times-lately p small v (q / 8) q l t (length-put w.state (counter_at (q / 8)) v ∙ size);
          })

-- and so does whatever arrives
module _ (plan : Plan) (sent : List ℕ) (q : ℕ) (h : q < 256) (w : World) (size : length w.state ≡ words) (p : ℕ) (small : p < 256) where
  pub arrives-turns : SameTurn w.state (arrives plan sent q w).state p
  arrives-turns =
      arrives-any plan sent q (omega arith) w (λ v. SameTurn w.state v.state p) (λ none no big. turn-same w.state p)
      (λ kind k g l e b. unmoved-turn (loses-unmoved kind q w) p small)
      (λ v l e. counts-turns q h w size p small (is_new v q w) (router plan (q / 8)) v l)
      (λ kind k g l b o. let x = took plan kind k g l (q / 8) q (omega arith) w.state size (router plan (q / 8)) in record { start = x.turns p; late = took-late x p })
