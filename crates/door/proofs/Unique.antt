-- Each public function's promise allows one answer, one value, and one exit of the areas. The promises of the bench have only one
-- outcome for a plan, and a file has only one plan.
use mathlib.Core.Path.{◌≡◌, sym, ap, ◌∙◌}
use mathlib.Core.List.{List}
use Prim.Native.Nat.{ℕ}
use native.Mathlib.Decide.{ℕ_discrete}
use Rattle.answers.specs.Answer.{Answer}
use Rattle.codes.specs.Codes.{reads, writes}
use Rattle.codes.specs.Numbers.{Says, code_of}
use Rattle.codes.specs.declared.Code.{Code}
use Rattle.device.specs.Reaction.{reacts, code_in}
use Rattle.device.specs.declared.Reaction.{Reaction}
use Rattle.plan.specs.Refusals.{verdict}
use Rattle.plan.specs.Reading.{plan_of}
use Rattle.plan.specs.declared.Plan.{Plan}
use Rattle.state.specs.State.{State}
use Rattle.state.specs.Start.{Starts}
use Rattle.state.proofs.Unique.{start-unique}
use Rattle.calls.specs.Calls.{Takes, Ticks, Links, Resets}
use Rattle.calls.proofs.Unique.{Once, call-unique, tick-unique, link-unique, reset-unique}
use Rattle.bench.specs.Round.{Areas}
use Rattle.bench.specs.RoundCall.{Plays}
use Rattle.bench.specs.Settling.{Pair, pair}
use Rattle.bench.proofs.Unique.{round-unique, settle-unique}
use Rattle.reach.specs.Reach.{Reaches}
use Rattle.reach.proofs.Unique.{reach-unique}
use Rattle.ways.specs.Crossings.{TellsCrossings}
use Rattle.ways.specs.Chain.{TellsChain}
use Rattle.ways.specs.Cut.{TellsCut}
use Rattle.ways.proofs.Unique.{crossings-unique, chain-unique, cut-unique}
use Rattle.report.specs.Report.{Areas as Texts, lent}
use Rattle.report.proofs.Unique.{report-unique}
use Rattle.reasons.specs.Why.{TellsWhy}
use Rattle.reasons.proofs.Unique.{why-unique}
use Rattle.door.specs.Numbers.{nonzero, side_of, Reacts}
use Rattle.door.specs.OnFile.{OnFile, Changes, Gives}
use Rattle.door.specs.Own.{own, SettlesOwn, ReportsOwn}

-- ---- codes, and one device

-- the three numbers of a code
says-once : (code : Code) {k l t u v w : ℕ} → Says code k t v → Says code l u w → (k ≡ l) × (t ≡ u) × (v ≡ w)
says-once code p q = (p.0 ∙ sym q.0, p.1 ∙ sym q.1, p.2 ∙ sym q.2)

pub bench-for-header-code-read-2-unique : (byte k l t u v w : ℕ) → Says (reads byte) k t v → Says (reads byte) l u w → (k ≡ l) × (t ≡ u) × (v ≡ w)
bench-for-header-code-read-2-unique byte k l t u v w = says-once (reads byte)

pub bench-for-header-code-write-unique : (kind value r s v w : ℕ) → ((top : ℕ) → record { number = r; value = v } ≡ writes (code_of kind top value))
    → ((top : ℕ) → record { number = s; value = w } ≡ writes (code_of kind top value)) → (r ≡ s) × (v ≡ w)
bench-for-header-code-write-unique kind value r s v w p q =
    let e = p 0 ∙ sym (q 0) in (ap (λ (a : Answer). a.number) e, ap (λ (a : Answer). a.value) e)

module _ (role running permissions events interrupts acknowledges register counter byte : ℕ) where
  abbrev reaction : Reaction
  reaction = reacts (side_of role running permissions events interrupts acknowledges) register counter byte

  pub bench-for-header-react-guarded-unique : (r s b c x y k l t u v w : ℕ) → Reacts reaction r b x k t v → Reacts reaction s c y l u w
      → (r ≡ s) × (b ≡ c) × (x ≡ y) × ((k ≡ l) × (t ≡ u) × (v ≡ w))
  bench-for-header-react-guarded-unique r s b c x y k l t u v w p q =
      (p.0 ∙ sym q.0, p.1 ∙ sym q.1, p.2 ∙ sym q.2, says-once (code_in reaction.action) p.3 q.3)

-- ---- the calls over a file

-- one outcome on the plan of an accepted file, and one where the file is refused
on-file-once : (file : List ℕ) (A B : Plan → Type 0) (m n : ℕ) {k l same : Type 0} → (A (plan_of file) → B (plan_of file) → same)
    → (m ≡ n → k → l → same) → OnFile file A m k → OnFile file B n l → same
on-file-once file A B m n called kept p q =
    elim (ℕ_discrete (verdict file).number 0) [
      | yes e ↦ called (p.accepted e) (q.accepted e)
      | no e ↦ let r = p.refused e in let s = q.refused e in kept (r.0 ∙ sym s.0) r.1 s.1
    ]

-- one number, one value, and one area after the call
abbrev pub OnceWith : (S : Type 0) → (S → ℕ → ℕ → S → Type 0) → Type 0
OnceWith S Promise = (before : S) (m n v w : ℕ) (a b : S) → Promise before m v a → Promise before n w b → (m ≡ n) × (v ≡ w) × (a ≡ b)

module _ (file : List ℕ) where
  changes-once : (call : Plan → State → ℕ → State → Type 0) → Once (call (plan_of file)) → Once (Changes file call)
  changes-once call once before m n a b =
      on-file-once file (λ plan. call plan before m a) (λ plan. call plan before n b) m n (once before m n a b) (λ e x y. (e, x ∙ sym y))

  gives-once : (S : Type 0) (call : Plan → S → ℕ → ℕ → S → Type 0) → OnceWith S (call (plan_of file)) → OnceWith S (Gives file call)
  gives-once S call once before m n v w a b =
      on-file-once file (λ plan. call plan before m v a) (λ plan. call plan before n w b) m n (once before m n v w a b)
      (λ e x y. (e, x.0 ∙ sym y.0, x.1 ∙ sym y.1))

  pub bench-for-header-plan-read-unique : (r s v w : ℕ) → (r ≡ (verdict file).number) × (v ≡ (verdict file).at)
      → (s ≡ (verdict file).number) × (w ≡ (verdict file).at) → (r ≡ s) × (v ≡ w)
  bench-for-header-plan-read-unique r s v w p q = (p.0 ∙ sym q.0, p.1 ∙ sym q.1)

  pub bench-for-header-start-unique : Once (Changes file Starts)
  bench-for-header-start-unique = changes-once Starts (start-unique (plan_of file))

  module _ (device : ℕ) where
    pub bench-for-header-request-unique : (k : ℕ) → Once (Changes file (λ plan. Takes plan 0 device k))
    bench-for-header-request-unique k = changes-once (λ plan. Takes plan 0 device k) (call-unique (plan_of file) device 0 k)

    pub bench-for-header-acknowledge-unique : (k : ℕ) → Once (Changes file (λ plan. Takes plan 1 device k))
    bench-for-header-acknowledge-unique k = changes-once (λ plan. Takes plan 1 device k) (call-unique (plan_of file) device 1 k)

    pub bench-for-header-link-unique : (port running : ℕ) → Once (Changes file (λ plan. Links plan device port (nonzero running)))
    bench-for-header-link-unique port running =
        changes-once (λ plan. Links plan device port (nonzero running)) (link-unique (plan_of file) device port (nonzero running))

    pub bench-for-header-tick-unique : Once (Changes file (λ plan. Ticks plan device))
    bench-for-header-tick-unique = changes-once (λ plan. Ticks plan device) (tick-unique (plan_of file) device)

    pub bench-for-header-reset-unique : Once (Changes file (λ plan. Resets plan device))
    bench-for-header-reset-unique = changes-once (λ plan. Resets plan device) (reset-unique (plan_of file) device)

    pub bench-for-header-reach-ports-unique : (state : State) (k m n v w x y a b : ℕ)
        → OnFile file (λ plan. Reaches plan state device k m v x a) m ((v ≡ 0) × (x ≡ 0) × (a ≡ 0))
        → OnFile file (λ plan. Reaches plan state device k n w y b) n ((w ≡ 0) × (y ≡ 0) × (b ≡ 0)) → (m ≡ n) × (v ≡ w) × (x ≡ y) × (a ≡ b)
    bench-for-header-reach-ports-unique state k m n v w x y a b =
        on-file-once file (λ plan. Reaches plan state device k m v x a) (λ plan. Reaches plan state device k n w y b) m n
        (reach-unique (plan_of file) state device k m n v w x y a b) (λ e p q. (e, p.0 ∙ sym q.0, p.1 ∙ sym q.1, p.2 ∙ sym q.2))

  pub bench-for-header-round-unique : (old : State) → OnceWith Areas (Gives file (λ plan. Plays plan old))
  bench-for-header-round-unique old = gives-once Areas (λ plan. Plays plan old) (round-unique (plan_of file) old)

  pub bench-for-header-settle-unique : (allowance : ℕ) → OnceWith State (Gives file (λ plan before. SettlesOwn plan before allowance))
  bench-for-header-settle-unique allowance = gives-once State (λ plan before. SettlesOwn plan before allowance) settle-own-unique
    where
      settle-own-unique : OnceWith State (λ before. SettlesOwn (plan_of file) before allowance)
      settle-own-unique before m n v w a b p q =
          let e = settle-unique (plan_of file) (pair before own) allowance m n v w (pair a own) (pair b own) p q in
          (e.0, e.1, ap (λ (x : Pair). x.state) e.2)

  module _ (state : State) (source k : ℕ) where
    pub bench-for-header-crossings-unique : OnceWith (List ℕ) (Gives file (λ plan. TellsCrossings plan state source k))
    bench-for-header-crossings-unique = gives-once (List ℕ) (λ plan. TellsCrossings plan state source k) (crossings-unique (plan_of file) state source k)

    pub bench-for-header-chain-unique : (device : ℕ) → OnceWith (List ℕ) (Gives file (λ plan. TellsChain plan state k source device))
    bench-for-header-chain-unique device = gives-once (List ℕ) (λ plan. TellsChain plan state k source device) (chain-unique (plan_of file) state k source device)

    pub bench-for-header-cut-unique : OnceWith (List ℕ) (Gives file (λ plan. TellsCut plan state source k))
    bench-for-header-cut-unique = gives-once (List ℕ) (λ plan. TellsCut plan state source k) (cut-unique (plan_of file) state source k)

  pub bench-for-header-report-unique : OnceWith (List ℕ) (ReportsOwn file)
  bench-for-header-report-unique before m n v w a b p q =
      let e = report-unique file (lent own own before) m n v w (lent own own a) (lent own own b) p q in
      (e.0, e.1, ap (λ (x : Texts). x.text) e.2)

  pub bench-for-header-why-unique : (given : ℕ) (bytes : List ℕ) (source k device : ℕ) → OnceWith (List ℕ) (TellsWhy file (nonzero given) bytes source k device)
  bench-for-header-why-unique given bytes source k device = why-unique file (nonzero given) bytes source k device
