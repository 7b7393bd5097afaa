-- Writes of words, and the answer of one step as what earlier writes had left.
use Rattle.std.specs.Prelude.{◌≡◌, ℕ, List, [], ◌∷◌, ◌++◌, length, nat_lt, slice_index, slice_set, if◌then◌else◌}

-- a write: the index of a word, and the value that the word then has
abbrev pub Write : Type 0
Write = ℕ × ℕ

-- these words after these writes, made one after another
abbrev pub written : List ℕ → List Write → List ℕ
written words [] = words
written words (write ∷ writes) = written (slice_set words write.0 write.1) writes

-- the second list of writes begins with the first
abbrev pub IsPastOf : List Write → List Write → Type 0
IsPastOf past all = (more : List Write) × (all ≡ past ++ more)

-- the longer of two pasts. If both are of one history, it begins with the other
abbrev pub longer : List Write → List Write → List Write
longer past other = if nat_lt (length past) (length other) then other else past

-- ---- what the caller of one step learns of it

-- a step on a word found this value and left that one: the new past is the history up to and with the step's own write,
-- and the old past is a beginning of the writes before it. The words at the very moment of the step are what these
-- writes had left: the value found is that of the word, and `Now` says of these words what else was so
pub record IsOfItsStep (opening : List ℕ) (Now : List ℕ → Type 0) (old new : List Write) (word found left : ℕ) : Type 0 where
  pub earlier : List Write
  pub goes_on : IsPastOf old earlier
  pub found_is : found ≡ slice_index (written opening earlier) word
  pub now : Now (written opening earlier)
  pub new_is : new ≡ earlier ++ (word, left) ∷ []

-- a load of a word found this value: the new past is the history up to the load, and the old past is a beginning of it.
-- The words at the very moment of the load are what this history had left: the value found is that of the word, and
-- `Now` says of these words what else was so
pub record IsOfItsLoad (opening : List ℕ) (Now : List ℕ → Type 0) (old new : List Write) (word found : ℕ) : Type 0 where
  pub goes_on : IsPastOf old new
  pub found_is : found ≡ slice_index (written opening new) word
  pub now : Now (written opening new)

-- a history that begins with this past leads from the opening words to these
pub record LeadsTo (opening : List ℕ) (past : List Write) (words : List ℕ) : Type 0 where
  pub all : List Write
  pub goes_on : IsPastOf past all
  pub words_are : words ≡ written opening all
