-- How the result for bytes in memory becomes the result for the reader that supplied them.
use Rattle.std.proofs.Common.{◌≡◌, ◌≤◌, ◌⊎◌, ◌∙◌, inl, inr, refl, arith, sym, subst, IfOk, IfSome, ℕ, List, length, Option, Some, None, Result, Ok, Err, String, Global, ap, string_bytes}
use Rattle.std.specs.Result.{result_ok}
use Rattle.std.specs.declared.alloc.AllocError.{AllocError}
use Rattle.std.proofs.lemmas.List.{length-append}
use Rattle.serde_json.specs.Data.{Data}
use Rattle.serde_json.specs.View.{view}
use Rattle.vll_scenario.specs.declared.limits.TheConstants.{MOST_BYTES}
use Rattle.vll_scenario.specs.Bytes.{ReadsAll, ReadsTooMany, fault_of}
use Rattle.vll_scenario.specs.Reading.{IsRead, IsScenarioOf, Reads, Tells}
use Rattle.vll_scenario.specs.Scenario.{IsTree, scenario_at, setup_of}
use Rattle.vll_scenario.specs.Shape.{◌>>=◌, shape_of}
use Rattle.vll_scenario.specs.declared.reading.shape.Parts.{Parts}
use Rattle.vll_scenario.specs.Headline.Setup.{Setup}
use Rattle.vll_scenario.specs.declared.fault.ScenarioFault.{ScenarioFault}
use Rattle.vll_scenario.specs.declared.fault.ScenarioFault.TheVariants as fault
use Rattle.vll_scenario.specs.declared.reading.bytes.ReadFault.{ReadFault}
use Rattle.vll_scenario.specs.declared.reading.bytes.ReadFault.TheVariants as bytes
use Rattle.vll_scenario.proofs.Answering.{reads_tell, setup_reads_nothing, shape_reads_nothing}
use Rattle.vll_explain.specs.Private.{HoldsOrExplains, IsToldOf}
use Rattle.vll_explain.specs.Explained.{AreMany, Describes, IsBegun, IsTold, ReadsOrExplains}
use Rattle.vll_explain.specs.declared.explaining.Parsed.{Parsed}
use Rattle.vll_explain.specs.declared.explaining.Refusal.{Refusal}

-- ---- bytes that were read to their end

held_reads : {A : Type 0} (of : Option Data → Result A ScenarioFault) (old new : Option (List ℕ)) (bytes : List ℕ) (r : Result A ScenarioFault) → ReadsAll old new bytes → Tells of (Some bytes) r → Reads of old new r
held_reads of old new bytes (Ok a) all told = (bytes, (all.0, inr all.1), told)
held_reads of old new bytes (Err fault.Read) all told = tt
held_reads of old new bytes (Err fault.NoMemory) all told = tt
held_reads of old new bytes (Err fault.Json) all told = (bytes, (all.0, inr all.1), told)
held_reads of old new bytes (Err (fault.Shape s)) all told = (bytes, (all.0, inr all.1), told)
held_reads of old new bytes (Err (fault.Check i f)) all told = (bytes, (all.0, inr all.1), told)
held_reads of old new bytes (Err (fault.Call c i f)) all told = (bytes, (all.0, inr all.1), told)
held_reads of old new bytes (Err fault.Size) all told = (bytes, (all.0, inr all.1), told)
held_reads of old new bytes (Err fault.NameTwice) all told = (bytes, (all.0, inr all.1), told)

-- what is known of bytes is known as far as the reader makes them known
held_tells : {A : Type 0} (of : Option Data → Result A ScenarioFault) (old new : Option (List ℕ)) (bytes : List ℕ) (r : Result A ScenarioFault) → ReadsAll old new bytes → Tells of (Some bytes) r → Tells of old r
held_tells of old new bytes r all told = reads_tell of old new r (held_reads of old new bytes r all told)

held_told : (old new : Option (List ℕ)) (bytes : List ℕ) (read : Result Setup ScenarioFault) (text : List ℕ) → ReadsAll old new bytes → IsTold (Some bytes) read text → IsTold old read text
held_told old new bytes (Ok setup) text all told = told
held_told old new bytes (Err fault.Read) text all told = told
held_told old new bytes (Err fault.NoMemory) text all told = told
held_told old new bytes (Err fault.Json) text all told = told
held_told old new bytes (Err (fault.Shape s)) text all (tree, (is_tree, has_fault), told) = (tree, (held_tells _ old new bytes (Ok tree) all is_tree, has_fault), told)
held_told old new bytes (Err (fault.Check i f)) text all (tree, (is_tree, has_fault), told) = (tree, (held_tells _ old new bytes (Ok tree) all is_tree, has_fault), told)
held_told old new bytes (Err (fault.Call c i f)) text all (tree, (is_tree, has_fault), told) = (tree, (held_tells _ old new bytes (Ok tree) all is_tree, has_fault), told)
held_told old new bytes (Err fault.Size) text (consumed, at_end, few) (inl (many, told)) = absurd (omega (arith, many, few))
held_told old new bytes (Err fault.Size) text all (inr (tree, (is_tree, has_fault), told)) = inr (tree, (held_tells _ old new bytes (Ok tree) all is_tree, has_fault), told)
held_told old new bytes (Err fault.NameTwice) text all (tree, (is_tree, has_fault), told) = (tree, (held_tells _ old new bytes (Ok tree) all is_tree, has_fault), told)

held_some : (old new : Option (List ℕ)) (bytes : List ℕ) (why : ScenarioFault) (text : Option (String Global)) → ReadsAll old new bytes
    → IfSome text (λ t. IsTold (Some bytes) (Err why) (string_bytes t)) → IfSome text (λ t. IsTold old (Err why) (string_bytes t))
held_some old new bytes why None all told = tt
held_some old new bytes why (Some t) all told = held_told old new bytes (Err why) (string_bytes t) all told

-- so what holds of the bytes in memory holds of what was read
held_explains : (old new : Option (List ℕ)) (bytes : List ℕ) (r : Result Parsed Refusal) → ReadsAll old new bytes → HoldsOrExplains bytes r → ReadsOrExplains old new r
held_explains old new bytes (Ok p) all (tells, described) = (
  (held_reads scenario_at old new bytes (Ok p.scenario) all tells, held_tells scenario_at old new bytes (Ok p.scenario) all tells),
  (held_tells _ old new bytes (Ok (view p.tree)) all described.0, described.1),
)
held_explains old new bytes (Err r) all (tells, told) =
    ((held_reads scenario_at old new bytes (Err r.fault) all tells, held_tells scenario_at old new bytes (Err r.fault) all tells), held_some old new bytes r.fault r.text all told)

pub same_explains : (old new : Option (List ℕ)) (bytes held : List ℕ) (r : Result Parsed Refusal) → ReadsAll old new bytes → held ≡ bytes → HoldsOrExplains held r → ReadsOrExplains old new r
same_explains old new bytes held r all same is = held_explains old new held r (subst (λ b. ReadsAll old new b) (sym same) all) is

-- a text, if there was memory for one
pub some_text : (r : Result (String Global) AllocError) (P : List ℕ → Type 0) → IfOk r (λ t. P (string_bytes t)) → IfSome (result_ok r) (λ t. P (string_bytes t))
some_text (Ok t) P holds = holds
some_text (Err e) P holds = tt

-- ---- bytes that were not read to their end

unread : (old new : Option (List ℕ)) (why : ReadFault) → (why ≡ bytes.Size → ReadsTooMany old new) → IsRead old new (Err (fault_of why))
unread old new bytes.Read many = (tt, tt)
unread old new bytes.NoMemory many = (tt, tt)
unread old new bytes.Size many =
    let known = many refl in
    let reads : Reads scenario_at old new (Err fault.Size) = (known.0, (known.1, inl known.2), inl (known.2.0, refl)) in
    (reads, reads_tell scenario_at old new (Err fault.Size) reads)

-- too many bytes were read
are_many : (old new : Option (List ℕ)) → ReadsTooMany old new → AreMany old
are_many None new many = tt
are_many (Some xs) None (bytes, consumed, (more, no_piece)) = absurd consumed
are_many (Some xs) (Some ys) (bytes, consumed, (more, no_piece)) = omega (arith, ap length consumed ∙ length-append bytes ys, more)

unread_told : (old new : Option (List ℕ)) (why : ReadFault) (text : List ℕ) → (why ≡ bytes.Size → ReadsTooMany old new) → IsBegun (fault_of why) text → IsTold old (Err (fault_of why)) text
unread_told old new bytes.Read text many told = told
unread_told old new bytes.NoMemory text many told = told
unread_told old new bytes.Size text many told = inl (are_many old new (many refl), told)

unread_some : (old new : Option (List ℕ)) (why : ReadFault) (text : Option (String Global)) → (why ≡ bytes.Size → ReadsTooMany old new) → IfSome text (λ t. IsBegun (fault_of why) (string_bytes t)) → IfSome text (λ t. IsTold old (Err (fault_of why)) (string_bytes t))
unread_some old new why None many told = tt
unread_some old new why (Some t) many told = unread_told old new why (string_bytes t) many told

-- the fault of bytes that were not read to their end
pub unread_explains : (old new : Option (List ℕ)) (read : ReadFault) (why : ScenarioFault) (text : Option (String Global)) → why ≡ fault_of read → (read ≡ bytes.Size → ReadsTooMany old new) → IfSome text (λ t. IsBegun why (string_bytes t)) → ReadsOrExplains old new (Err (record { fault = why; text = text }))
unread_explains old new read why text is many told =
    let begun = subst (λ f. IfSome text (λ t. IsBegun f (string_bytes t))) is told in
    subst (λ f. ReadsOrExplains old new (Err (record { fault = f; text = text }))) (sym is) (unread old new read many, unread_some old new read text many begun)

-- ---- the tree of bytes

tree_tells : (bytes : List ℕ) (tree : Data) (r : Result Setup ScenarioFault) → length bytes ≤ MOST_BYTES → IsTree bytes (Some tree) → IsScenarioOf tree r → Tells scenario_at (Some bytes) r
tree_tells bytes tree (Ok setup) few is_tree is = inr (few, (Some tree, is_tree, is))
tree_tells bytes tree (Err fault.Read) few is_tree is = tt
tree_tells bytes tree (Err fault.NoMemory) few is_tree is = tt
tree_tells bytes tree (Err fault.Json) few is_tree is = inr (few, (Some tree, is_tree, is))
tree_tells bytes tree (Err (fault.Shape s)) few is_tree is = inr (few, (Some tree, is_tree, is))
tree_tells bytes tree (Err (fault.Check i f)) few is_tree is = inr (few, (Some tree, is_tree, is))
tree_tells bytes tree (Err (fault.Call c i f)) few is_tree is = inr (few, (Some tree, is_tree, is))
tree_tells bytes tree (Err fault.Size) few is_tree is = inr (few, (Some tree, is_tree, is))
tree_tells bytes tree (Err fault.NameTwice) few is_tree is = inr (few, (Some tree, is_tree, is))

-- so the tree of bytes describes their scenario
pub tree_describes : (bytes : List ℕ) (tree : Data) (setup : Setup) → length bytes ≤ MOST_BYTES → IsTree bytes (Some tree) → IsScenarioOf tree (Ok setup) → Tells scenario_at (Some bytes) (Ok setup) × Describes (Some bytes) tree setup
tree_describes bytes tree setup few is_tree is = (tree_tells bytes tree (Ok setup) few is_tree is, (inr (few, (Some tree, is_tree, refl)), is))

tree_told : (bytes : List ℕ) (tree : Data) (why : ScenarioFault) (text : List ℕ) → length bytes ≤ MOST_BYTES → IsTree bytes (Some tree) → IsScenarioOf tree (Err why) → IsToldOf tree why text → IsTold (Some bytes) (Err why) text
tree_told bytes tree fault.Read text few is_tree is told = told
tree_told bytes tree fault.NoMemory text few is_tree is told = told
tree_told bytes tree fault.Json text few is_tree is told = told
tree_told bytes tree (fault.Shape s) text few is_tree is told = (tree, (inr (few, (Some tree, is_tree, refl)), is), told)
tree_told bytes tree (fault.Check i f) text few is_tree is told = (tree, (inr (few, (Some tree, is_tree, refl)), is), told)
tree_told bytes tree (fault.Call c i f) text few is_tree is told = (tree, (inr (few, (Some tree, is_tree, refl)), is), told)
tree_told bytes tree fault.Size text few is_tree is told = inr (tree, (inr (few, (Some tree, is_tree, refl)), is), told)
tree_told bytes tree fault.NameTwice text few is_tree is told = (tree, (inr (few, (Some tree, is_tree, refl)), is), told)

tree_some : (bytes : List ℕ) (tree : Data) (why : ScenarioFault) (text : Option (String Global)) → length bytes ≤ MOST_BYTES → IsTree bytes (Some tree) → IsScenarioOf tree (Err why) → IfSome text (λ t. IsToldOf tree why (string_bytes t)) → IfSome text (λ t. IsTold (Some bytes) (Err why) (string_bytes t))
tree_some bytes tree why None few is_tree is told = tt
tree_some bytes tree why (Some t) few is_tree is told = tree_told bytes tree why (string_bytes t) few is_tree is told

-- a fault that lies in the tree of bytes
pub tree_explains : (bytes : List ℕ) (tree : Data) (why : ScenarioFault) (text : Option (String Global)) → length bytes ≤ MOST_BYTES → IsTree bytes (Some tree) → IsScenarioOf tree (Err why) → IfSome text (λ t. IsToldOf tree why (string_bytes t)) → HoldsOrExplains bytes (Err (record { fault = why; text = text }))
tree_explains bytes tree why text few is_tree is told = (tree_tells bytes tree (Err why) few is_tree is, tree_some bytes tree why text few is_tree is told)

-- the fault of bytes that have no tree
pub treeless_explains : (bytes : List ℕ) (why : ScenarioFault) (text : Option (String Global)) → length bytes ≤ MOST_BYTES → ((why ≡ fault.Json) × IsTree bytes None) ⊎ (why ≡ fault.NoMemory) → IfSome text (λ t. IsBegun why (string_bytes t)) → HoldsOrExplains bytes (Err (record { fault = why; text = text }))
treeless_explains bytes why text few (inl (json, is_tree)) told =
    subst (λ f. IfSome text (λ t. IsBegun f (string_bytes t)) → HoldsOrExplains bytes (Err (record { fault = f; text = text }))) (sym json) (λ of_json. (inr (few, (None, is_tree, refl)), of_json)) told
treeless_explains bytes why text few (inr memory) told =
    subst (λ f. IfSome text (λ t. IsBegun f (string_bytes t)) → HoldsOrExplains bytes (Err (record { fault = f; text = text }))) (sym memory) (λ of_memory. (tt, of_memory)) told

-- ---- the fault of a tree is not the reader's

never_read : (r : Result Parts ScenarioFault) → (r ≡ Err fault.Read → ⊥) → (r >>= setup_of) ≡ Err fault.Read → ⊥
never_read (Ok parts) none is = setup_reads_nothing (Err fault.Read) parts is refl
never_read (Err why) none is = let same : why ≡ fault.Read = cc in none (ap Err same)

pub reads_not : (tree : Data) (r : Result Setup ScenarioFault) (why : ScenarioFault) → IsScenarioOf tree r → r ≡ Err why → Some why ≡ Some fault.Read → ⊥
reads_not tree r why told is read =
    let same : r ≡ Err fault.Read = cc in
    never_read (shape_of tree) (λ e. shape_reads_nothing (Err fault.Read) tree e refl) (subst (IsScenarioOf tree) same told)
