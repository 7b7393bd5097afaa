-- What is told of a scenario that was not read.
use Rattle.std.proofs.Common.{◌≡◌, ◌⊎◌, inl, inr, refl, subst, sym, List, ℕ, Option, Some, None, IfSome, IfNone, Err, String, Global, string_bytes}
use Rattle.vll_explain.specs.Explained.{IsTold, ReadsOrExplains}
use Rattle.vll_explain.specs.declared.explaining.Refusal.{Refusal}
use Rattle.vll_replay.specs.Headline.Text.{Text}
use Rattle.vll_command.specs.declared.action.Action.{Action}
use Rattle.vll_command.specs.declared.action.Action.TheVariants as action
use Rattle.vll_command.specs.declared.action.Input.{Input}
use Rattle.vll_command.specs.declared.action.Input.TheVariants as input
use Rattle.vll.specs.Private.Acting.{HasFault, ReadsFrom, ReadsOrNot, Refuses}
use Rattle.vll.specs.declared.fault.NoScenario.{NoScenario}

pub if_some : {A : Type 0} (o : Option A) (P Q : A → Type 0) → ((a : A) → P a → Q a) → IfSome o P → IfSome o Q
if_some None P Q then holds = tt
if_some (Some a) P Q then holds = then a holds

explained : (old new : Option (List ℕ)) (r : Refusal) (t : String Global) → r.text ≡ Some t → ReadsOrExplains old new (Err r) → HasFault old new (λ x. x ≡ string_bytes t)
explained old new r t is (read, told) = (
  r.fault,
  record { read = Err r.fault; is_read = read; is_fault = refl; text = string_bytes t; told = subst (λ o. IfSome o (λ (s : String Global). IsTold old (Err r.fault) (string_bytes s))) is told; holds = refl },
)

-- the text of a refusal explains what was read
pub explains : (old new : Option (List ℕ)) (r : Refusal) (text : Option (String Global)) → r.text ≡ text → ReadsOrExplains old new (Err r) → IfSome text (λ t. HasFault old new (λ x. x ≡ string_bytes t))
explains old new r None is reads = tt
explains old new r (Some t) is reads = explained old new r t is reads

-- the same wherever the scenario was read from
pub refused : (i : Input) (Unused : Type 0) (old new : Option (List ℕ)) (none : NoScenario) (text : Option (String Global)) → none.refusal.text ≡ text
    → ReadsFrom i Unused old new (λ a b. ReadsOrNot a b (Err none)) → IfSome text (λ t. ReadsFrom i Unused old new (λ a b. HasFault a b (λ x. x ≡ string_bytes t)))
refused i Unused old new none None is reads = tt
refused input.Standard Unused old new none (Some t) is reads = explained old new none.refusal t is reads
refused (input.File path) Unused old new none (Some t) is (unused, a, b, reads) = (unused, a, b, explained a b none.refusal t is reads)

has_fault : (old new : Option (List ℕ)) (t : Text) (Holds : Text → Type 0) → Holds t → HasFault old new (λ x. x ≡ t) → HasFault old new Holds
has_fault old new t Holds holds (why, e) = (why, record { read = e.read; is_read = e.is_read; is_fault = e.is_fault; text = e.text; told = e.told; holds = subst Holds (sym e.holds) holds })

reads_fault : (i : Input) (Unused : Type 0) (old new : Option (List ℕ)) (t : Text) (Holds : Text → Type 0) → Holds t
    → ReadsFrom i Unused old new (λ a b. HasFault a b (λ x. x ≡ t)) → ReadsFrom i Unused old new (λ a b. HasFault a b Holds)
reads_fault input.Standard Unused old new t Holds holds has = has_fault old new t Holds holds has
reads_fault (input.File path) Unused old new t Holds holds (unused, a, b, has) = (unused, a, b, has_fault a b t Holds holds has)

-- what holds of the text holds of an explanation
pub refuses : (a : Action) (Unused : Type 0) (old new : Option (List ℕ)) (t : Text) (Holds : Text → Type 0) → Holds t → Refuses a Unused old new (λ x. x ≡ t) → Refuses a Unused old new Holds
refuses (action.Run from options) Unused old new t Holds holds has = reads_fault from Unused old new t Holds holds has
refuses (action.Serve options) Unused old new t Holds holds has = reads_fault (input.File options.file) Unused old new t Holds holds has
refuses (action.Replay from) Unused old new t Holds holds has = reads_fault from Unused old new t Holds holds has
refuses (action.Explain from) Unused old new t Holds holds has = absurd has
refuses (action.Draw from window) Unused old new t Holds holds has = reads_fault from Unused old new t Holds holds has
refuses (action.Trace from options) Unused old new t Holds holds has = reads_fault from Unused old new t Holds holds has
refuses (action.Tell text) Unused old new t Holds holds has = absurd has

-- nothing was told, or what there is to tell
pub told : (o : Option (String Global)) (Same : Type 0) (Refused : (Text → Type 0) → Type 0) (Holds : Text → Type 0) → ((t : Text) → Holds t → Refused (λ x. x ≡ t) → Refused Holds)
    → IfSome o (λ text. Refused (λ x. x ≡ string_bytes text)) → IfSome o (λ text. Holds (string_bytes text)) → IfNone o Same → Same ⊎ Refused Holds
told None Same Refused Holds weaker has holds same = inl same
told (Some t) Same Refused Holds weaker has holds same = inr (weaker (string_bytes t) holds has)
