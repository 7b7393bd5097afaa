-- What is shown of a machine in which nothing is entered, and that it keeps what a machine keeps.
use Rattle.std.proofs.Common.{◌≡◌, ℕ, ◌≤◌, List, [], ◌∷◌, length, map, replicate, refl, sym, ap, ◌∙◌, subst, vec_capacity, Option, Some, None, IfSome, Result, Ok, Err, IfOk, slice_get}
use Rattle.vll_core.proofs.Common.{Vec, All, length-replicate, All-map, All-nil, Call, Fits, IsReady, IsCatalog, Config, Inside, Base, opened, AreProper, IsReached, begun, OpenTurn, QueueEntry, Queued, IsQueued, empty, AreFirstWords, Shown, AreWords, opening_of, shown, entries_of, turn_of, left_of, IsMachine}
use Rattle.vll_core.specs.Shown as shown_of
use Rattle.vll_core.proofs.Fitted.{proper_scripts}

-- each script is left whole where its next call is its first
left_whole : (vs : List (Vec Call)) (ns : List ℕ) → ns ≡ replicate (length vs) 0 → left_of vs ns ≡ map (λ (v : Vec Call). v.items) vs
left_whole vs ns is = ap (left_of vs) is ∙ whole vs
  where
    whole : (vs : List (Vec Call)) → left_of vs (replicate (length vs) 0) ≡ map (λ (v : Vec Call). v.items) vs
    whole [] = refl
    whole (v ∷ vs) = ap (λ (left : List (List Call)). v.items ∷ left) (whole vs)

-- nothing is kept for any script
none_kept : (vs : List (Vec Call)) → replicate (length vs) None ≡ map (λ (script : List Call). let none : Option ℕ = None in none) (map (λ (v : Vec Call). v.items) vs)
none_kept [] = refl
none_kept (v ∷ vs) = ap (λ (kept : List (Option ℕ)). None ∷ kept) (none_kept vs)

-- a list that is filled with one item, if its clones are equal to it
pub filled : {A E : Type 0} {Equal : Type 0} (x : A) (n : ℕ) (r : Result (Vec A) E) → IfOk r (λ v. Equal → v.items ≡ replicate n x) → Equal → IfOk r (λ v. v.items ≡ replicate n x)
filled x n (Ok v) h equal = h equal
filled x n (Err why) h equal = tt

-- an option that satisfies a condition that no number does is None
pub none_alone : (Like : Option ℕ → Type 0) → ((n : ℕ) → Like (Some n) → ⊥) → (y : Option ℕ) → Like y → y ≡ None
none_alone Like other None like = refl
none_alone Like other (Some n) like = absurd (other n like)

-- a machine in which nothing is entered
pub record IsFresh {H : Type 0} (config : Config) (hash : H) (c : Inside H) : Type 0 where
  pub queue : c.queue ≡ empty config hash
  pub execution : c.execution.items ≡ []
  pub turn : c.turn ≡ None
  pub nexts : c.next.items ≡ replicate (length c.scripts.items) 0
  pub kepts : c.kept.items ≡ replicate (length c.scripts.items) None

-- nothing is entered in its queue
pub none_entered : {H : Type 0} (config : Config) (hash : H) (c : Inside H) → IsFresh config hash c → c.queue.entries ≡ []
none_entered {H} config hash c fresh = ap (λ (q : Queued H). q.entries) fresh.queue

pub shown_begun : {H : Type 0} (config : Config) (hash : H) (c : Inside H) → IsFresh config hash c
    → shown c ≡ shown_of.begun c.library.value c.opening.value.items c.scripts.items config hash
shown_begun {H} config hash c fresh =
    let entries : entries_of c.queue.entries c.execution.items ≡ [] = ap (λ es. entries_of es c.execution.items) (none_entered config hash c fresh) in
    cc (
      entries,
      ap (λ (q : Queued H). q.cap) fresh.queue,
      ap (λ (q : Queued H). q.limit) fresh.queue,
      ap (λ (q : Queued H). q.bits) fresh.queue,
      ap (λ (q : Queued H). q.hash) fresh.queue,
      ap turn_of fresh.turn,
      left_whole c.scripts.items c.next.items fresh.nexts,
      fresh.kepts ∙ none_kept c.scripts.items,
    )

-- the words at the opening are those of the state
pub words_begun : (base : Base) (scripts : List (List Call)) (words : List ℕ) → AreFirstWords base.records words → AreWords base (opened scripts) words
words_begun base scripts words are = record { long = are.long; turn = are.turn; values = are.values; pairs = are.pairs }

-- what the opening makes is a machine
pub core_begun : {H : Type 0} {places : H → ℕ → ℕ} (config : Config) (hash : H) (c : Inside H) → IsFresh config hash c → AreFirstWords c.opening.value.items c.words.items → 1 ≤ length c.opening.value.items → length c.opening.value.items ≤ 65536
    → c.library.value.records ≡ length c.opening.value.items → IsCatalog c.library.value → IsQueued c.queue → c.queue.limit ≤ vec_capacity c.execution
    → All (λ (v : Vec Call). All (Fits c.library.value) v.items) c.scripts.items → IsMachine places c
core_begun {H} {places} config hash c fresh words some few records catalog queue room fits = record {
  reached = subst (λ (s : Shown H). IsReached (opening_of places s) s.state) (sym (shown_begun config hash c fresh)) (begun _ proper);
  words = subst (λ (s : Shown H). AreWords s.base s.state c.words.items) (sym (shown_begun config hash c fresh)) (words_begun _ _ c.words.items words);
  some_records = some;
  few_records = few;
  records = records;
  catalog = catalog;
  queue = queue;
  works = ap length fresh.execution ∙ ap length (sym (none_entered config hash c fresh));
  room = room;
  nexts = ap length fresh.nexts ∙ length-replicate (length c.scripts.items) 0;
  kepts = ap length fresh.kepts ∙ length-replicate (length c.scripts.items) None;
  entries_ready = subst (All (λ (e : QueueEntry). IsReady c.library.value e.line.call)) (sym (none_entered config hash c fresh)) (All-nil _);
  turn_ready = subst (λ (o : Option OpenTurn). IfSome o (λ (t : OpenTurn). IsReady c.library.value t.call)) (sym fresh.turn) tt;
  scripts_fit = fits;
  at_work = λ t e w at has. absurd (let none : slice_get [] t ≡ Some e = ap (λ (es : List QueueEntry). slice_get es t) (sym (none_entered config hash c fresh)) ∙ at in cc none);
  replied = λ t e w at has gone. absurd (let none : slice_get [] t ≡ Some e = ap (λ (es : List QueueEntry). slice_get es t) (sym (none_entered config hash c fresh)) ∙ at in cc none);
}
  where
    proper : AreProper (record { procs = c.library.value.procs; records = c.opening.value.items }) (map (λ (v : Vec Call). v.items) c.scripts.items)
    proper =
        proper_scripts c.library.value c.opening.value.items (map (λ (v : Vec Call). v.items) c.scripts.items) catalog records
        (All-map (All (Fits c.library.value)) (λ (v : Vec Call). v.items) c.scripts.items fits)
