-- How the result for a tree becomes the result for its parts, and for its scenario.
use Rattle.std.proofs.Common.{◌≡◌, ◌⊎◌, inl, inr, ℕ, suc, Bool, true, false, List, [], ◌∷◌, ◌++◌, length, Option, Some, None, Result, Ok, Err, IfOk, IfErr, IfSome, refl, sym, ap, ◌∙◌, subst, arith, length-append, append-nil, option_map, is_none, if◌then◌else◌, ◌&&◌}
use Rattle.std.specs.Prelude.{codes}
use Rattle.serde_json.specs.Data.{Data}
use Rattle.serde_json.specs.Find.{get}
use Rattle.serde_json.specs.View.{view}
use Rattle.serde_json.specs.declared.value.Value.{Value}
use Rattle.vll_proc.specs.declared.call.Call.{Call}
use Rattle.vll_proc.specs.declared.syntax.Proc.{Proc}
use Rattle.vll_check.specs.declared.fault.CallFault.{CallFault}
use Rattle.vll_check.specs.declared.fault.CheckFault.{CheckFault}
use Rattle.vll_check.specs.Calls.{call_made}
use Rattle.vll_check.specs.Headline.Catalog.{Catalog}
use Rattle.vll_check.specs.Faults.{check_fault}
use Rattle.vll_check.specs.Names.{has_name_twice}
use Rattle.vll_core.specs.Faults.{open_fault}
use Rattle.vll_core.specs.Machine.{refuse_if}
use Rattle.vll_scenario.specs.declared.fault.Part.{Part}
use Rattle.vll_scenario.specs.declared.fault.Part.TheVariants as part
use Rattle.vll_scenario.specs.declared.fault.ScenarioFault.{ScenarioFault}
use Rattle.vll_scenario.specs.declared.fault.ScenarioFault.TheVariants as fault
use Rattle.vll_scenario.specs.declared.reading.shape.Parts.{Parts}
use Rattle.vll_scenario.specs.Reading.{IsAnswerBy, ReadsEnough, Reads, Tells}
use Rattle.vll_scenario.specs.Private.Reading.{data_of, GivesUnlessMemory}
use Rattle.vll_scenario.specs.Scenario.{IsTree, call_at, config_of, each_given, first_check, first_check_from, in_call, ok_unless, or_else, script_made, scripts_made, setup_of, tree_or_json}
use Rattle.vll_scenario.specs.Schedule.{event_at}
use Rattle.vll_scenario.specs.Headline.Setup.{Setup}
use Rattle.vll_scenario.specs.Setup.{has_sizes}
use Rattle.vll_scenario.specs.Shape.{◌>>=◌, edition_at, in_part, list_if_there, may_names, must_names, option_at, part_at, parts_of, placing_at, script_at, shape_of}
use Rattle.vll_scenario.specs.Streams.{AreTooMany}
use Rattle.vll_scenario.specs.Syntax.{has_members, proc_at}
use Rattle.vll_scenario.specs.Tree.{number_at, u32_at}
use Rattle.vll_scenario.specs.Bytes.{ReadsAll}

-- ---- the tree of the bytes

err_tree : (old new : Option (List ℕ)) (bytes : List ℕ) (e : ScenarioFault) → ReadsAll old new bytes → ((e ≡ fault.Json) × IsTree bytes None) ⊎ (e ≡ fault.NoMemory) → Reads tree_or_json old new (Err e)
err_tree old new bytes e all (inl json) =
    subst (λ why. Reads tree_or_json old new (Err why)) (sym json.0) (bytes, (all.0, inr all.1), inr (all.2, (None, json.1, refl)))
err_tree old new bytes e all (inr memory) = subst (λ why. Reads tree_or_json old new (Err why)) (sym memory) tt

pub tree_reads : (old new : Option (List ℕ)) (bytes : List ℕ) (r : Result Value ScenarioFault) → ReadsAll old new bytes → IfOk r (λ v. IsTree bytes (Some (view v)))
    → IfErr r (λ e. ((e ≡ fault.Json) × IsTree bytes None) ⊎ (e ≡ fault.NoMemory)) → Reads tree_or_json old new (data_of r)
tree_reads old new bytes (Ok v) all ok err = (bytes, (all.0, inr all.1), inr (all.2, (Some (view v), ok, refl)))
tree_reads old new bytes (Err e) all ok err = err_tree old new bytes e all err

-- ---- going on

-- what is known of the bytes, whichever the answer
abbrev Known : {A : Type 0} → (Option Data → Result A ScenarioFault) → Option (List ℕ) → Option (List ℕ) → Result A ScenarioFault → Type 0
Known of old new result = (bytes : List ℕ) × ReadsEnough old new bytes × IsAnswerBy of bytes result

no_size : {A : Type 0} (a : A) (r : Result A ScenarioFault) → r ≡ Ok a → r ≡ Err fault.Size → ⊥
no_size a r p q = cc

answer_further : {A B : Type 0} (of : Option Data → Result A ScenarioFault) (go : A → Result B ScenarioFault) (bytes : List ℕ) (a : A) (r : Result B ScenarioFault)
    → IsAnswerBy of bytes (Ok a) → go a ≡ r → IsAnswerBy (λ o. of o >>= go) bytes r
answer_further of go bytes a r (inl many) is = absurd (no_size a (Ok a) refl many.1)
answer_further of go bytes a r (inr fits) is = inr (fits.0, (fits.1.0, fits.1.1, ap (λ x. x >>= go) fits.1.2 ∙ is))

known_further : {A B : Type 0} (of : Option Data → Result A ScenarioFault) (go : A → Result B ScenarioFault) (old new : Option (List ℕ)) (a : A) (r : Result B ScenarioFault)
    → Known of old new (Ok a) → go a ≡ r → Known (λ o. of o >>= go) old new r
known_further of go old new a r known is = (known.0, known.1, answer_further of go known.0 a r known.2 is)

-- what was read has a value, and what it gives is answered
pub reads_further : {A B : Type 0} (of : Option Data → Result A ScenarioFault) (go : A → Result B ScenarioFault) (old new : Option (List ℕ)) (a : A) (r : Result B ScenarioFault)
    → Reads of old new (Ok a) → GivesUnlessMemory r (go a) → Reads (λ o. of o >>= go) old new r
reads_further of go old new a (Ok b) known is = known_further of go old new a (Ok b) known is
reads_further of go old new a (Err fault.Read) known is = tt
reads_further of go old new a (Err fault.NoMemory) known is = tt
reads_further of go old new a (Err fault.Json) known is = known_further of go old new a (Err fault.Json) known is
reads_further of go old new a (Err (fault.Shape s)) known is = known_further of go old new a (Err (fault.Shape s)) known is
reads_further of go old new a (Err (fault.Check i f)) known is = known_further of go old new a (Err (fault.Check i f)) known is
reads_further of go old new a (Err (fault.Call c i f)) known is = known_further of go old new a (Err (fault.Call c i f)) known is
reads_further of go old new a (Err fault.Size) known is = known_further of go old new a (Err fault.Size) known is
reads_further of go old new a (Err fault.NameTwice) known is = known_further of go old new a (Err fault.NameTwice) known is

same_err : {A : Type 0} (e f : ScenarioFault) (r : Result A ScenarioFault) → r ≡ Err e → r ≡ Err f → e ≡ f
same_err e f r p q = cc

answer_fault : {A B : Type 0} (of : Option Data → Result A ScenarioFault) (go : A → Result B ScenarioFault) (bytes : List ℕ) (e : ScenarioFault) → IsAnswerBy of bytes (Err e) → IsAnswerBy (λ o. of o >>= go) bytes (Err e)
answer_fault {A = T} of go bytes e (inl many) = inl (many.0, ap Err (same_err {A = T} e fault.Size (Err e) refl many.1))
answer_fault of go bytes e (inr fits) = inr (fits.0, (fits.1.0, fits.1.1, ap (λ x. x >>= go) fits.1.2))

known_fault : {A B : Type 0} (of : Option Data → Result A ScenarioFault) (go : A → Result B ScenarioFault) (old new : Option (List ℕ)) (e : ScenarioFault) → Known of old new (Err e) → Known (λ o. of o >>= go) old new (Err e)
known_fault of go old new e known = (known.0, known.1, answer_fault of go known.0 e known.2)

-- what was read has a fault, and it is answered
pub reads_fault : {A B : Type 0} (of : Option Data → Result A ScenarioFault) (go : A → Result B ScenarioFault) (old new : Option (List ℕ)) (e : ScenarioFault) → Reads of old new (Err e) → Reads (λ o. of o >>= go) old new (Err e)
reads_fault of go old new fault.Read known = tt
reads_fault of go old new fault.NoMemory known = tt
reads_fault of go old new fault.Json known = known_fault of go old new fault.Json known
reads_fault of go old new (fault.Shape s) known = known_fault of go old new (fault.Shape s) known
reads_fault of go old new (fault.Check i f) known = known_fault of go old new (fault.Check i f) known
reads_fault of go old new (fault.Call c i f) known = known_fault of go old new (fault.Call c i f) known
reads_fault of go old new fault.Size known = known_fault of go old new fault.Size known
reads_fault of go old new fault.NameTwice known = known_fault of go old new fault.NameTwice known

-- ---- a reader that tells its bytes

answer_whole : {A : Type 0} (of : Option Data → Result A ScenarioFault) (all bytes rest : List ℕ) (r : Result A ScenarioFault) → all ≡ bytes ++ rest → AreTooMany bytes ⊎ (rest ≡ []) → IsAnswerBy of bytes r → IsAnswerBy of all r
answer_whole of all bytes rest r is (inl many) (inl size) = inl (omega (arith, ap length is, length-append bytes rest), size.1)
answer_whole of all bytes rest r is (inl many) (inr fits) = absurd (omega (arith, fits.0))
answer_whole of all bytes rest r is (inr end) answer = subst (λ xs. IsAnswerBy of xs r) (sym (is ∙ ap (λ xs. bytes ++ xs) end ∙ append-nil bytes)) answer

known_tells : {A : Type 0} (of : Option Data → Result A ScenarioFault) (old new : Option (List ℕ)) (r : Result A ScenarioFault) → Known of old new r → IfSome old (λ bytes. IsAnswerBy of bytes r)
known_tells of None new r known = tt
known_tells of (Some all) None r known = absurd known.1.0
known_tells of (Some all) (Some rest) r known = answer_whole of all known.0 rest r known.1.0 known.1.1 known.2

pub reads_tell : {A : Type 0} (of : Option Data → Result A ScenarioFault) (old new : Option (List ℕ)) (r : Result A ScenarioFault) → Reads of old new r → Tells of old r
reads_tell of old new (Ok b) known = known_tells of old new (Ok b) known
reads_tell of old new (Err fault.Read) known = tt
reads_tell of old new (Err fault.NoMemory) known = tt
reads_tell of old new (Err fault.Json) known = known_tells of old new (Err fault.Json) known
reads_tell of old new (Err (fault.Shape s)) known = known_tells of old new (Err (fault.Shape s)) known
reads_tell of old new (Err (fault.Check i f)) known = known_tells of old new (Err (fault.Check i f)) known
reads_tell of old new (Err (fault.Call c i f)) known = known_tells of old new (Err (fault.Call c i f)) known
reads_tell of old new (Err fault.Size) known = known_tells of old new (Err fault.Size) known
reads_tell of old new (Err fault.NameTwice) known = known_tells of old new (Err fault.NameTwice) known

-- ---- what is made of parts is never the reader's fault

abbrev IsOther : {A : Type 0} → Result A ScenarioFault → Type 0
IsOther (Err fault.Read) = ⊥
IsOther r = Unit {0}

other_then : {A B : Type 0} (r : Result A ScenarioFault) (go : A → Result B ScenarioFault) → IsOther r → ((a : A) → IsOther (go a)) → IsOther (r >>= go)
other_then (Ok a) go here each = each a
other_then (Err fault.Read) go here each = here
other_then (Err fault.Json) go here each = tt
other_then (Err (fault.Shape s)) go here each = tt
other_then (Err (fault.Check i f)) go here each = tt
other_then (Err (fault.Call c i f)) go here each = tt
other_then (Err fault.Size) go here each = tt
other_then (Err fault.NoMemory) go here each = tt
other_then (Err fault.NameTwice) go here each = tt

other_each : {A B : Type 0} (f : ℕ → A → Result B ScenarioFault) → ((i : ℕ) (x : A) → IsOther (f i x)) → (i : ℕ) (xs : List A) → IsOther (each_given f i xs)
other_each f each i [] = tt
other_each f each i (x ∷ xs) = other_then (f i x) _ (each i x) (λ y. other_then (each_given f (suc i) xs) _ (other_each f each (suc i) xs) (λ ys. tt))

other_call : (client index : ℕ) (made : Result Call CallFault) → IsOther (in_call client index made)
other_call client index (Ok c) = tt
other_call client index (Err why) = tt

other_check : {A : Type 0} (i : ℕ) (o : Option CheckFault) (rest : Option ScenarioFault) (a : A) → IsOther (ok_unless rest a) → IsOther (ok_unless (or_else (option_map (fault.Check i) o) rest) a)
other_check i None rest a other = other
other_check i (Some why) rest a other = tt

other_checks : {A : Type 0} (records i : ℕ) (procs : List Proc) (a : A) → IsOther (ok_unless (first_check_from records i procs) a)
other_checks records i [] a = tt
other_checks records i (p ∷ procs) a = other_check i (check_fault records p) (first_check_from records (suc i) procs) a (other_checks records (suc i) procs a)

other_refused : {A : Type 0} (b : Bool) (r : Result A ScenarioFault) → IsOther r → IsOther (refuse_if b fault.NameTwice r)
other_refused true r other = tt
other_refused false r other = other

other_either : {A : Type 0} (b : Bool) (r s : Result A ScenarioFault) → IsOther r → IsOther s → IsOther (if b then r else s)
other_either true r s one two = one
other_either false r s one two = two

other_setup : (p : Parts) → IsOther (setup_of p)
other_setup p =
    other_either (has_sizes p.procs p.scripts p.schedule && is_none (open_fault (length p.records) (config_of p))) _ (Err fault.Size)
    (other_then (ok_unless (first_check (length p.records) p.procs) p.procs) _ (other_checks (length p.records) 0 p.procs p.procs) (λ procs.
    other_refused (has_name_twice procs) _
    (let catalog : Catalog = record { records = length p.records; procs = procs } in
    other_then (scripts_made catalog p.scripts) _
    (other_each (script_made catalog) (λ client script. other_each (call_at catalog client) (λ index a. other_call client index (call_made catalog a.name a.args)) 0 script) 0 p.scripts)
    (λ scripts. tt))))
    tt

none_other : {A : Type 0} (r : Result A ScenarioFault) → IsOther r → r ≡ Err fault.Read → ⊥
none_other r other e = subst IsOther e other

pub setup_reads_nothing : (r : Result Setup ScenarioFault) (p : Parts) → GivesUnlessMemory r (setup_of p) → r ≡ Err fault.Read → ⊥
setup_reads_nothing r p gives e = none_other (setup_of p) (other_setup p) (subst (λ x. GivesUnlessMemory x (setup_of p)) e gives)

-- ---- nor are the parts of a tree

other_list : {A : Type 0} (part : Part) (reading : Result A ℕ) → IsOther (in_part part reading)
other_list part (Ok a) = tt
other_list part (Err i) = tt

read_option : {A : Type 0} (part : Part) (name : List ℕ) (f : Data → Option A) (d x : Data) (o : Option A) → get name d ≡ Some x → f x ≡ o → IsOther (option_at part name f d)
read_option part name f d x None there is = rw (there, is) tt
read_option part name f d x (Some a) there is = rw (there, is) tt

found_option : {A : Type 0} (part : Part) (name : List ℕ) (f : Data → Option A) (d : Data) (o : Option Data) → get name d ≡ o → IsOther (option_at part name f d)
found_option part name f d None there = rw there tt
found_option part name f d (Some x) there = read_option part name f d x (f x) there refl

other_option : {A : Type 0} (part : Part) (name : List ℕ) (f : Data → Option A) (d : Data) → IsOther (option_at part name f d)
other_option part name f d = found_option part name f d (get name d) refl

other_parts : (d : Data) → IsOther (parts_of d)
other_parts d =
    other_then (edition_at d) _ (other_list part.Version _) (λ edition.
    other_then (part_at part.Records (codes "records") number_at d) _ (other_list part.Records _) (λ records.
    other_then (part_at part.Procs (codes "procs") (proc_at edition) d) _ (other_list part.Procs _) (λ procs.
    other_then (part_at part.Clients (codes "clients") script_at d) _ (other_list part.Clients _) (λ scripts.
    other_then (option_at part.Cap (codes "cap") u32_at d) _ (other_option part.Cap (codes "cap") u32_at d) (λ cap.
    other_then (option_at part.Bits (codes "bits") u32_at d) _ (other_option part.Bits (codes "bits") u32_at d) (λ bits.
    other_then (option_at part.Limit (codes "limit") u32_at d) _ (other_option part.Limit (codes "limit") u32_at d) (λ limit.
    other_then (option_at part.Hash (codes "hash") placing_at d) _ (other_option part.Hash (codes "hash") placing_at d) (λ placing.
    other_then (in_part part.Schedule (list_if_there event_at (get (codes "schedule") d))) _ (other_list part.Schedule _) (λ schedule. tt)))))))))

pub shape_reads_nothing : (r : Result Parts ScenarioFault) (d : Data) → GivesUnlessMemory r (shape_of d) → r ≡ Err fault.Read → ⊥
shape_reads_nothing r d gives e =
    none_other (shape_of d) (other_either (has_members must_names may_names d) (parts_of d) _ (other_parts d) tt) (subst (λ x. GivesUnlessMemory x (shape_of d)) e gives)
