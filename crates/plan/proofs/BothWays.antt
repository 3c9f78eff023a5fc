-- The theorems of plan files: what is held is what is right in memory, reading and writing undo each other, and the first refusal found wins.
use mathlib.Core.Path.{◌≡◌, refl, sym, ap, ◌∙◌}
use mathlib.Core.Bool.{Bool, true, false, cond, ◌&&◌, ◌||◌, false≢true}
use mathlib.Core.List.{List, [], ◌∷◌}
use mathlib.Core.Logic.{inr, dite}
use Prim.Native.Nat.{ℕ, zero, suc, ◌+◌, ◌*◌, ◌≤◌, ◌<◌}
use native.Mathlib.Decide.{dec_lt, ℕ_discrete}
use native.Mathlib.Omega.{arith}
use lib.Dec.{eqb, leb, ltb}
use lib.ListN.{length, get_or, get_or-eq_default}
use borrow.Author.Tests.{ltb-true, lt-ltb, eqb-true, eq-eqb, ne_eqb}
use Rattle.answers.proofs.Unique.{ordered-once}
use Rattle.bits.specs.Set.{bit}
use Rattle.lists.proofs.Facts.{facts}
use Rattle.lists.proofs.Tests.{and_left, and_right}
use Rattle.plan.specs.Fields.{ports_fit, masks_fit, master_is_node, bar_fits, nobody}
use Rattle.plan.specs.Header.{header_of}
use Rattle.plan.specs.Refusals.{Test, test, accepts, first, tests, verdict}
use Rattle.plan.specs.Reading.{plan_of, Accepted, Held, zeros, reads}
use Rattle.plan.specs.Writing.{write_asks, Writes}
use Rattle.plan.specs.Refusals.{Verdict}
use Rattle.plan.specs.declared.Plan.{Plan}
use Rattle.plan.specs.Reading.{Read}
use Rattle.plan.specs.Inner.Memory.{port_right, device_right, row_right, right}
use Rattle.plan.specs.Inner.File.{file_of}
use Rattle.plan.proofs.Firsts.{fails}
use Rattle.plan.proofs.Shape.{Shaped}
use Rattle.plan.proofs.Shared.{one-source}
use Rattle.plan.proofs.Good.{devices-fit, header-says, master-fits, zero-accepts}
pub use Rattle.plan.proofs.There.{length-file}
use Rattle.plan.proofs.There.{right-says, right-good}
use Rattle.plan.proofs.Back.{shaped, read_right, read-file}

-- ---- an accepted file and its plan

module _ (file : List ℕ) (plan : Plan) (a : Accepted file plan) where
  -- the file of the plan that was read is the file that it was read from
  pub read-and-written : file_of plan ≡ file
  read-and-written = ap file_of a.plan-of ∙ read-file file a.bytes a.right

  -- the plan is right in memory, and has the shape of its types
  accepted-right : right plan ≡ true
  accepted-right = ap right a.plan-of ∙ read_right file a.bytes a.right

  accepted-shaped : Shaped plan
  accepted-shaped = rw a.plan-of (shaped file a.bytes)

-- two accepted files of one plan are the same file
pub one-file : (file other : List ℕ) (plan : Plan) → Accepted file plan → Accepted other plan → file ≡ other
one-file file other plan a b = sym (read-and-written file plan a) ∙ read-and-written other plan b

-- the master's role is that of a node
pub node-master : (master d role : ℕ) → master ≡ d + 1 → master_is_node master d role ≡ true → role ≡ 0
unfolding master_is_node
node-master master d role e n = eqb-true role 0 (by-test (eqb role 0) (rw (eq-eqb master (d + 1) e) at n))
  where
    by-test : (b : Bool) → (b || false) ≡ true → b ≡ true
    by-test true n = refl
    by-test false n = n

module _ (plan : Plan) where
  pub held-right : Held plan → right plan ≡ true
  unfolding Held
  held-right h = accepted-right h.0 plan h.1

  pub held-shaped : Held plan → Shaped plan
  unfolding Held
  held-shaped h = accepted-shaped h.0 plan h.1

  pub right-accepted : Shaped plan → right plan ≡ true → Accepted (file_of plan) plan
  right-accepted s e = right-good plan (right-says plan e) s

  pub right-held : Shaped plan → right plan ≡ true → Held plan
  unfolding Held
  right-held s e = (file_of plan, right-accepted s e)

  -- the test in memory is true exactly of the plans that some accepted file holds
  pub checks-agree : Shaped plan → (right plan ≡ true → Held plan) × (Held plan → right plan ≡ true)
  checks-agree s = (right-held s, held-right)

  -- a held plan, written and read, gives the same plan
  pub written-and-read : Held plan → Accepted (file_of plan) plan
  written-and-read h = right-accepted (held-shaped h) (held-right h)

  pub held-devices : Held plan → (1 ≤ plan.core.devices) × (plan.core.devices ≤ 32)
  held-devices h = devices-fit plan.core.devices (header-says (header_of plan.core) (right-says plan (held-right h)).header).0

  -- a master's number plus 1 is no more than there are devices
  pub held-master : Held plan → plan.core.master ≤ plan.core.devices
  held-master h = master-fits plan.core.devices plan.core.master (header-says (header_of plan.core) (right-says plan (held-right h)).header).2

  -- the master is one of the devices, and a node
  pub held-master-node : Held plan → (d : ℕ) → plan.core.master ≡ d + 1 → (d < plan.core.devices) × (get_or plan.core.role d 0 ≡ 0)
  unfolding row_right device_right
  held-master-node h d e =
      let there : d < plan.core.devices = omega (arith, held-master h) in
      let row = simp facts at (rw (lt-ltb d plan.core.devices there) at ((right-says plan (held-right h)).rows d (omega (arith, held-devices h)))) in
      (there, node-master plan.core.master d _ e row.0.0.1)

  -- an identifier that is no event has one source at most
  pub held-one-source : Held plan → (k : ℕ) → bit plan.core.events k ≡ 0 → (d e : ℕ) → d < plan.core.devices → e < plan.core.devices
      → bit (get_or plan.core.source d 0) k ≡ 1 → bit (get_or plan.core.source e 0) k ≡ 1 → d ≡ e
  held-one-source h = one-source plan.core.events plan.core.devices _ (right-says plan (held-right h)).sources

-- a device is a node or a router, and has few ports; a node has two at most
pub few-ports : (role ports : ℕ) → ports_fit role ports ≡ true → (role < 2) × (ports ≤ 8) × (role ≡ 0 → ports ≤ 2)
unfolding ports_fit
few-ports role ports e =
    elim (ℕ_discrete role 0) [
      | yes z ↦ let f = simp facts at (simp (eq-eqb role 0 z) at e) in (omega arith, omega arith, λ _. omega arith)
      | no n ↦ let f = simp facts at (simp (ne_eqb role 0 n) at e) in (omega arith, omega arith, λ z. absurd (n z))
    ]

device-few : (n master d role ports source handler : ℕ) → device_right n master d role ports source handler ≡ true → (role < 2) × (ports ≤ 8)
unfolding device_right
device-few n master d role ports source handler e = by-test (ltb d n) e
  where
    by-test : (b : Bool) → cond b (ports_fit role ports && masks_fit role source handler && master_is_node master d role) (eqb role 0 && eqb ports 0 && eqb source 0 && eqb handler 0) ≡ true → (role < 2) × (ports ≤ 8)
    by-test true e = let f = few-ports role ports (and_left _ _ (and_left _ (master_is_node master d role) e)) in (f.0, f.1)
    by-test false e = let f = simp facts at e in (omega arith, omega arith)

pub held-few : (plan : Plan) → Held plan → (d : ℕ) → d < 32 → (get_or plan.core.role d 0 < 2) × (get_or plan.core.ports d 0 ≤ 8)
unfolding row_right
held-few plan h d l =
    let row = simp facts at ((right-says plan (held-right plan h)).rows d l) in
    device-few plan.core.devices plan.core.master d _ _ _ _ row.0.0

-- only a port that a router has bars anything
pub held-bars : (plan : Plan) → Held plan → (d j : ℕ) → d < 32 → j < 16
    → bar_fits (get_or plan.core.role d 0) (get_or plan.core.ports d 0) j (get_or plan.barred (16 * d + j) 0) ≡ true
unfolding row_right
held-bars plan h d j l k = let row = simp facts at ((right-says plan (held-right plan h)).rows d l) in row.1 j k

-- a peer is a port or nobody
some-peer : (n ports p peer permissions : ℕ) → n ≤ 32 → port_right n ports p peer permissions ≡ true → peer ≤ nobody
unfolding port_right
some-peer n ports p peer permissions h e = by-test (ltb p ports && ltb peer (8 * n)) refl e
  where
    by-test : (b : Bool) → (ltb p ports && ltb peer (8 * n)) ≡ b → cond b (leb permissions 15) (eqb peer nobody && eqb permissions 0) ≡ true → peer ≤ nobody
    by-test true q e = omega (arith, ltb-true peer (8 * n) (and_right (ltb p ports) (ltb peer (8 * n)) q))
    by-test false q e = omega (arith, eqb-true peer nobody (and_left (eqb peer nobody) (eqb permissions 0) e))

pub held-peers : (plan : Plan) → Held plan → (d p : ℕ) → get_or (get_or plan.peers d []) p 0 ≤ nobody
unfolding row_right
held-peers plan h d p =
    let right = right-says plan (held-right plan h) in
    let shape = held-shaped plan h in
    dite (dec_lt d 32)
    (λ l. dite (dec_lt p 8)
    (λ m. let row = simp facts at (right.rows d l) in some-peer _ _ p _ _ (held-devices plan h).1 (row.0.1 p m))
    (λ m. omega (arith, get_or-eq_default (get_or plan.peers d []) 0 (past (shape.row d l).long m))))
    (λ l. omega (arith, ap (λ row. get_or row p 0) (get_or-eq_default plan.peers [] (past shape.rows l))))
  where
    past : {n size i : ℕ} → n ≡ size → (i < size → ⊥) → n ≤ i
    past e l = omega arith

pub zeros-not-held : Held zeros → ⊥
unfolding zeros
zeros-not-held h = omega (arith, held-devices zeros h)

-- ---- the first found wins

-- what stands past the end of the tests
abbrev pub none : Test
none = test 0 0 true

-- test i of some
abbrev pub nth : List Test → ℕ → Test
nth ts i = get_or ts i none

-- the answer to some tests: all are passed and nothing is wrong; or one is not passed, and it is the first such
pub data Answers (ts : List Test) (v : Verdict) : Type 0 where
  nothing : ((j : ℕ) → j < length ts → (nth ts j).passes ≡ true) → v ≡ accepts → Answers ts v
  found : (i : ℕ) → i < length ts → (nth ts i).passes ≡ false → ((j : ℕ) → j < i → (nth ts j).passes ≡ true) → v ≡ fails (nth ts i) → Answers ts v

-- one more test in front
earlier : (t : Test) (ts : List Test) (n : ℕ) → t.passes ≡ true → ((j : ℕ) → j < n → (nth ts j).passes ≡ true) → (j : ℕ) → j < suc n → (nth (t ∷ ts) j).passes ≡ true
earlier t ts n e h zero l = e
earlier t ts n e h (suc j) l = h j (omega arith)

-- the reader's answer is one
pub first-refusal : (ts : List Test) → Answers ts (first ts)
unfolding first
first-refusal [] = nothing (λ j h. absurd (omega arith)) refl
first-refusal (t ∷ ts) = by-test t.passes refl (first-refusal ts)
  where
    by-test : (b : Bool) → t.passes ≡ b → Answers ts (first ts) → Answers (t ∷ ts) (cond b (first ts) (fails t))
    by-test false e a = found 0 (omega arith) e (λ j h. absurd (omega arith)) refl
    by-test true e (nothing p q) = nothing (earlier t ts (length ts) e p) q
    by-test true e (found i l n p q) = found (suc i) (omega arith) n (earlier t ts i e p) q

-- and there is no other
pub one_answer : (ts : List Test) (v w : Verdict) → Answers ts v → Answers ts w → v ≡ w
one_answer ts v w (nothing p q) (nothing r s) = q ∙ sym s
one_answer ts v w (nothing p q) (found i l n r s) = absurd (false≢true (sym n ∙ p i l))
one_answer ts v w (found i l n p q) (nothing r s) = absurd (false≢true (sym n ∙ r i l))
one_answer ts v w (found i l n p q) (found k m o r s) =
    dite (dec_lt i k) (λ h. absurd (false≢true (sym n ∙ r i h)))
    (λ h. dite (dec_lt k i) (λ g. absurd (false≢true (sym o ∙ p k g)))
    (λ g. let same : i ≡ k = omega arith in q ∙ ap (λ x. fails (nth ts x)) same ∙ sym s))

-- so what the reader says of a file is the first thing wrong with it
pub verdict-first : (file : List ℕ) → Answers (tests file) (verdict file)
unfolding verdict
verdict-first file = first-refusal (tests file)

-- a file that it has nothing to say against holds a plan
pub read_held : (file : List ℕ) → ((i : ℕ) → get_or file i 0 < 256) → (verdict file).number ≡ 0 → Held (plan_of file)
unfolding Held
read_held file small e = (file, record { bytes = small; right = zero-accepts file e; plan-of = refl })

-- ---- what reading and writing promise, one after the other

module _ (file : List ℕ) (small : (i : ℕ) → get_or file i 0 < 256) (e : (reads file).number ≡ 0) where
  read-accepted : Accepted file (reads file).plan
  unfolding reads
  read-accepted = record { bytes = small; right = zero-accepts file e; plan-of = simp (eq-eqb (verdict file).number 0 e) }

  read_length : length file ≡ 512 * (1 + (reads file).plan.core.devices)
  read_length = ap length (sym (read-and-written file (reads file).plan read-accepted)) ∙ length-file (reads file).plan

  -- the plan that was read from a file is not refused by the writer, where the area is as long as the file; and the area is then the file
  pub reads-then-writes : (before : List ℕ) (number : ℕ) (after : List ℕ)
      → length before ≡ length file → Writes (reads file).plan before number after → (number ≡ 0) × (after ≡ file)
  unfolding Held
  reads-then-writes before number after long w =
      let done : number ≡ 0 =
      ordered-once (write_asks (reads file).plan before) number 0 w.answers (inr ((file, read-accepted), inr (long ∙ read_length, refl))) in
      (done, one-file after file (reads file).plan (w.made done) read-accepted)

  -- and wherever it is written at all, what is written is the file
  pub reads-then-written : (before after : List ℕ) → Writes (reads file).plan before 0 after → after ≡ file
  reads-then-written before after w = one-file after file (reads file).plan (w.made refl) read-accepted

-- a plan that was written is read again, and nothing is refused
pub writes-then-reads : (plan : Plan) (before after : List ℕ) → Writes plan before 0 after → reads after ≡ record { number = 0; block = 0; plan = plan }
unfolding reads
writes-then-reads plan before after w =
    let answer : Verdict → Plan → Read = λ v p. record { number = v.number; block = v.at; plan = cond (eqb v.number 0) p zeros } in
    ap (λ v. answer v (plan_of after)) (w.made refl).right ∙ ap (answer accepts) (sym (w.made refl).plan-of)
