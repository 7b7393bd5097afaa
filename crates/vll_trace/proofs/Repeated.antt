-- Two trees with the same members describe the same scenario, but for what the other members say.
use Rattle.std.proofs.Common.{◌≡◌, ◌∙◌, ◌≤◌, ℕ, List, Bool, true, false, Ordering, Less, Equal, Greater, Option, Some, None, Result, Ok, Err, ap, arith, codes, length, is_none, ◌&&◌, refl, subst, sym, unwrap_or, if◌then◌else◌}
use Rattle.std.specs.Ordering.{nat_cmp, match_ordering}
use Rattle.std.specs.Cmp.Lexicographic.{slice_cmp}
use Rattle.serde_json.specs.Data.{Data, object, Members, no_members, member, depth, members_depth}
use Rattle.serde_json.specs.Find.{get, get_member}
use Rattle.serde_json.specs.Read.{max_depth, read}
use Rattle.vll_proc.specs.declared.syntax.Edition.{Edition}
use Rattle.vll_check.specs.Names.{has_name_twice}
use Rattle.vll_core.specs.Faults.{open_fault}
use Rattle.vll_core.specs.Machine.{refuse_if}
use Rattle.vll_sca.specs.declared.place.Placing.TheVariants.{Modulo}
use Rattle.vll_scenario.specs.declared.fault.Part.{Part}
use Rattle.vll_scenario.specs.declared.fault.Part.TheVariants.{Records, Procs, Clients, Cap, Bits, Limit, Hash, Schedule}
use Rattle.vll_scenario.specs.declared.reading.shape.Parts.{Parts}
use Rattle.vll_scenario.specs.declared.fault.ScenarioFault.TheVariants as fault
use Rattle.vll_scenario.specs.Headline.Setup.{Setup}
use Rattle.vll_scenario.specs.Setup.{has_sizes}
use Rattle.vll_scenario.specs.Scenario.{config_of, first_check, ok_unless, scenario_at, scripts_made, setup_of}
use Rattle.vll_scenario.specs.Schedule.{event_at}
use Rattle.vll_scenario.specs.Shape.{◌>>=◌, edition_at, in_part, list_if_there, option_at, part_at, parts_of, placing_at, script_at}
use Rattle.vll_scenario.specs.Syntax.{member_at, proc_at}
use Rattle.vll_scenario.specs.Tree.{list_at, number_at, u32_at}
use Rattle.vll_trace.specs.Private.Repeated.{AreAlike}

-- ---- results

-- what went well before went well, and so did what followed
bound : {A B F : Type 0} (r : Result A F) (go : A → Result B F) (b : B) → (r >>= go) ≡ Ok b → (a : A) × (r ≡ Ok a) × (go a ≡ Ok b)
bound (Ok a) go b is = (a, refl, is)
bound (Err why) go b is = absurd (cc)

chosen : {A F : Type 0} (b : Bool) (r : Result A F) (why : F) (a : A) → (if b then r else Err why) ≡ Ok a → r ≡ Ok a
chosen true r why a is = is
chosen false r why a is = absurd (cc)

not_refused : {A F : Type 0} (b : Bool) (why : F) (r : Result A F) (a : A) → refuse_if b why r ≡ Ok a → r ≡ Ok a
not_refused true why r a is = absurd (cc)
not_refused false why r a is = is

without_fault : {A F : Type 0} (fault : Option F) (a b : A) → ok_unless fault a ≡ Ok b → b ≡ a
without_fault None a b is = cc
without_fault (Some why) a b is = absurd (cc)

-- two equal results have the same value
one_value : {A F : Type 0} (r s : Result A F) (a b : A) → r ≡ s → r ≡ Ok a → s ≡ Ok b → a ≡ b
one_value r s a b same is other = cc

-- ---- members

same_member : (name : List ℕ) (d e : Data) (o : Option Data) → get name d ≡ o → get name e ≡ o → member_at name d ≡ member_at name e
same_member name d e None p q = rw (p, q) refl
same_member name d e (Some x) p q = rw (p, q) refl

same_option : {A : Type 0} (part : Part) (name : List ℕ) (f : Data → Option A) (d e : Data) (o : Option Data) → get name d ≡ o → get name e ≡ o → option_at part name f d ≡ option_at part name f e
same_option part name f d e o p q = rw (p, q) refl

same_part : {A : Type 0} (part : Part) (name : List ℕ) (f : Data → Option A) (d e : Data) → get name d ≡ get name e → part_at part name f d ≡ part_at part name f e
same_part part name f d e same = ap (λ m. in_part part (list_at f m)) (same_member name d e (get name e) same refl)

-- a member nests no deeper than what has it
found_depth : (o : Ordering) (d m : Data) (rest : Option Data) (n : ℕ) → depth d ≤ n → ((x : Data) → rest ≡ Some x → depth x ≤ n) → match_ordering o rest (Some d) rest ≡ Some m → depth m ≤ n
found_depth Less d m rest n here there is = there m is
found_depth Equal d m rest n here there is = let same : d ≡ m = cc in subst (λ x. depth x ≤ n) same here
found_depth Greater d m rest n here there is = there m is

get_member-depth : (name : List ℕ) (ms : Members) (m : Data) (n : ℕ) → members_depth ms ≤ n → get_member name ms ≡ Some m → depth m ≤ n
get_member-depth name no_members m n h is = absurd (cc)
get_member-depth name (member l d ms) m n h is =
    found_depth (slice_cmp nat_cmp name l) d m (get_member name ms) n (omega arith) (λ x found. get_member-depth name ms x n (omega arith) found) is

get-depth : (name : List ℕ) (d m : Data) → get name d ≡ Some m → depth m ≤ depth d
get-depth name (object ms) m is = let at_most = get_member-depth name ms m (members_depth ms) (omega arith) is in omega (arith, at_most)
get-depth name _ m is = absurd (cc)

-- two members with the same text are the same, since each reads back
pub same_text : (name : List ℕ) (a b m n : Data) (s t : List ℕ) → get name a ≡ Some m → get name b ≡ Some n → depth a ≤ max_depth → depth b ≤ max_depth
    → (depth m ≤ max_depth → read s ≡ Some m) → (depth n ≤ max_depth → read t ≡ Some n) → s ≡ t → get name a ≡ get name b
same_text name a b m n s t one other few_a few_b reads_m reads_n same =
    let read_m = reads_m (omega (arith, get-depth name a m one, few_a)) in
    let read_n = reads_n (omega (arith, get-depth name b n other, few_b)) in
    one ∙ sym read_m ∙ ap read same ∙ read_n ∙ sym other

-- ---- parts

-- what the members of a tree give, but for the engine's settings and the schedule
record HasParts (d : Data) (p : Parts) : Type 0 where
  pub edition : Edition
  pub is_edition : edition_at d ≡ Ok edition
  pub records : part_at Records (codes "records") number_at d ≡ Ok p.records
  pub procs : part_at Procs (codes "procs") (proc_at edition) d ≡ Ok p.procs
  pub scripts : part_at Clients (codes "clients") script_at d ≡ Ok p.scripts
  pub placing : option_at Hash (codes "hash") placing_at d ≡ Ok p.placing

has_parts : (d : Data) (p : Parts) → parts_of d ≡ Ok p → HasParts d p
has_parts d p is =
    let edition = bound (edition_at d) _ p is in
    let records = bound (part_at Records (codes "records") number_at d) _ p edition.2 in
    let procs = bound (part_at Procs (codes "procs") (proc_at edition.0) d) _ p records.2 in
    let scripts = bound (part_at Clients (codes "clients") script_at d) _ p procs.2 in
    let cap = bound (option_at Cap (codes "cap") u32_at d) _ p scripts.2 in
    let bits = bound (option_at Bits (codes "bits") u32_at d) _ p cap.2 in
    let limit = bound (option_at Limit (codes "limit") u32_at d) _ p bits.2 in
    let placing = bound (option_at Hash (codes "hash") placing_at d) _ p limit.2 in
    let schedule = bound (in_part Schedule (list_if_there event_at (get (codes "schedule") d))) _ p placing.2 in
    let made : Parts = record { records = records.0; procs = procs.0; scripts = scripts.0; cap = cap.0; bits = bits.0; limit = limit.0; placing = placing.0; schedule = schedule.0 } in
    let same : made ≡ p = one_value (Ok made) (Ok made) made p refl refl schedule.2 in
    record {
      edition = edition.0;
      is_edition = edition.1;
      records = records.1 ∙ ap (λ (x : Parts). Ok x.records) same;
      procs = procs.1 ∙ ap (λ (x : Parts). Ok x.procs) same;
      scripts = scripts.1 ∙ ap (λ (x : Parts). Ok x.scripts) same;
      placing = placing.1 ∙ ap (λ (x : Parts). Ok x.placing) same;
    }

-- the parts of two trees that are alike
record SameParts (p q : Parts) : Type 0 where
  pub records : p.records ≡ q.records
  pub procs : p.procs ≡ q.procs
  pub scripts : p.scripts ≡ q.scripts
  pub placing : p.placing ≡ q.placing

same_parts : (d e : Data) (p q : Parts) → AreAlike d e → HasParts d p → HasParts e q → SameParts p q
same_parts d e p q alike a b =
    let version = same_member (codes "version") d e (get (codes "version") e) alike.version refl in
    let edition : a.edition ≡ b.edition = one_value (edition_at d) (edition_at e) a.edition b.edition (rw version refl) a.is_edition b.is_edition in
    record {
      records = one_value _ _ p.records q.records (same_part Records (codes "records") number_at d e alike.records) a.records b.records;
      procs = one_value _ _ p.procs q.procs (same_part Procs (codes "procs") (proc_at a.edition) d e alike.procs) a.procs (ap (λ x. part_at Procs (codes "procs") (proc_at x) e) edition ∙ b.procs);
      scripts = one_value _ _ p.scripts q.scripts (same_part Clients (codes "clients") script_at d e alike.clients) a.scripts b.scripts;
      placing = one_value _ _ p.placing q.placing (same_option Hash (codes "hash") placing_at d e (get (codes "hash") e) alike.hash refl) a.placing b.placing;
    }

-- ---- scenarios

-- what a scenario has of its parts
record IsMade (p : Parts) (s : Setup) : Type 0 where
  pub records : s.records ≡ p.records
  pub procs : s.procs ≡ p.procs
  pub scripts : scripts_made (record { records = length p.records; procs = s.procs }) p.scripts ≡ Ok s.scripts
  pub placing : s.placing ≡ unwrap_or p.placing Modulo

is_made : (p : Parts) (s : Setup) → setup_of p ≡ Ok s → IsMade p s
is_made p s is =
    let sized = chosen (has_sizes p.procs p.scripts p.schedule && is_none (open_fault (length p.records) (config_of p))) _ fault.Size s is in
    let procs = bound (ok_unless (first_check (length p.records) p.procs) p.procs) _ s sized in
    let named = not_refused (has_name_twice procs.0) fault.NameTwice _ s procs.2 in
    let scripts = bound (scripts_made (record { records = length p.records; procs = procs.0 }) p.scripts) _ s named in
    let made : Setup = record { records = p.records; procs = procs.0; scripts = scripts.0; config = config_of p; placing = unwrap_or p.placing Modulo; schedule = p.schedule } in
    let same : made ≡ s = one_value (Ok made) (Ok made) made s refl refl scripts.2 in
    let checked : procs.0 ≡ s.procs = ap (λ (x : Setup). x.procs) same in
    record {
      records = sym (ap (λ (x : Setup). x.records) same);
      procs = sym checked ∙ without_fault _ p.procs procs.0 procs.1;
      scripts = sym (ap (λ x. scripts_made (record { records = length p.records; procs = x }) p.scripts) checked) ∙ scripts.1 ∙ ap (λ (x : Setup). Ok x.scripts) same;
      placing = sym (ap (λ (x : Setup). x.placing) same);
    }

-- two trees that are alike describe scenarios with the same records, procedures, calls and hash
pub record AreOne (s t : Setup) : Type 0 where
  pub records : s.records ≡ t.records
  pub procs : s.procs ≡ t.procs
  pub scripts : s.scripts ≡ t.scripts
  pub placing : s.placing ≡ t.placing

of_parts : (p q : Parts) (s t : Setup) → SameParts p q → IsMade p s → IsMade q t → AreOne s t
of_parts p q s t same a b =
    let procs = a.procs ∙ same.procs ∙ sym b.procs in
    let scripts : scripts_made (record { records = length p.records; procs = s.procs }) p.scripts ≡ scripts_made (record { records = length q.records; procs = t.procs }) q.scripts = cc in
    record {
      records = a.records ∙ same.records ∙ sym b.records;
      procs = procs;
      scripts = one_value _ _ s.scripts t.scripts scripts a.scripts b.scripts;
      placing = a.placing ∙ ap (λ x. unwrap_or x Modulo) same.placing ∙ sym b.placing;
    }

pub alike_are_one : (d e : Data) (s t : Setup) → AreAlike d e → scenario_at (Some d) ≡ Ok s → scenario_at (Some e) ≡ Ok t → AreOne s t
alike_are_one d e s t alike of_d of_e =
    let p = bound _ _ s of_d in
    let q = bound _ _ t of_e in
    of_parts p.0 q.0 s t (same_parts d e p.0 q.0 alike (has_parts d p.0 (chosen _ _ _ p.0 p.1)) (has_parts e q.0 (chosen _ _ _ q.0 q.1))) (is_made p.0 s p.2) (is_made q.0 t q.2)
