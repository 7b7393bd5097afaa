-- The rule of the pool: each client's token is in the pool or in one hand.
use Rattle.std.specs.Prelude.{◌≡◌, ℕ, ◌+◌, ◌-◌, List, [], ◌∷◌, ◌++◌, sum_by}
use mathlib.Core.Option.{some}
use lib.ListN.{get_elem?}
use Rattle.atomic_table.specs.Seated.{TableId}
use Rattle.crossbeam_queue.specs.Passes.{Pass, view}
use Rattle.vll_tokens.specs.declared.pool.Hand.{Hand}
use Rattle.vll_core.specs.declared.config.TheConstants.{MOST_WORKERS}
use Rattle.vll_tokens.specs.Shown.{TokenShown}
use Rattle.vll_tokens.specs.Tokens.{clients_of}

abbrev pub hand : ℕ → List ℕ → Hand
hand parts holds = record { parts = parts; holds = holds }

-- the parts of all workers and of the calling thread
abbrev pub all_parts : ℕ
all_parts = MOST_WORKERS + 1

-- the same clients, each as often: by any weights, both lists weigh the same
abbrev pub AreSame : List ℕ → List ℕ → Type 0
AreSame a b = (h : ℕ → ℕ) → sum_by h a ≡ sum_by h b

-- this client, and any others
pub record HoldsOne (holds : List ℕ) (client : ℕ) : Type 0 where
  pub others : List ℕ
  pub same : AreSame holds (client ∷ others)

-- this client and these, and any others
pub record HoldsMore (holds : List ℕ) (client : ℕ) (these : List ℕ) : Type 0 where
  pub others : List ℕ
  pub same : AreSame holds (others ++ client ∷ these)

-- these in one list and those in the other are all
abbrev pub AreAll : List ℕ → List ℕ → List ℕ → Type 0
AreAll all these those = (h : ℕ → ℕ) → sum_by h these + sum_by h those ≡ sum_by h all

-- a pass with no part has nothing in hand
abbrev pub IdleIsEmpty : List Hand → Type 0
IdleIsEmpty views = (pass : ℕ) (v : Hand) → get_elem? views pass ≡ some v → v.parts ≡ 0 → v.holds ≡ []

-- the clients whose tokens are in the pool and those whose tokens are in hand are all clients, each once; no part is
-- missing
pub record IsFair (clients : List ℕ) (items : List TokenShown) (views : List Hand) : Type 0 where
  pub each : (h : ℕ → ℕ) → sum_by h (clients_of items) + sum_by (λ (v : Hand). sum_by h v.holds) views ≡ sum_by h clients
  pub parts : sum_by (λ (v : Hand). v.parts) views ≡ all_parts
  pub idle : IdleIsEmpty views

-- the client's token leaves the hand, and nothing else changes
pub record IsPut (client : ℕ) (old new : Hand) : Type 0 where
  pub parts : new.parts ≡ old.parts
  pub holds : AreSame old.holds (client ∷ new.holds)

-- the client's token comes into the hand, and nothing else changes
pub record IsTaken (client : ℕ) (old new : Hand) : Type 0 where
  pub parts : new.parts ≡ old.parts
  pub holds : AreSame new.holds (client ∷ old.holds)

-- one part is given away
abbrev pub hired : Hand → Hand
hired v = hand (v.parts - 1) v.holds

-- a new pass: one part, and nothing in hand
abbrev pub new_hand : Hand
new_hand = hand 1 []

-- what two hands have, in one hand
abbrev pub joined : Hand → Hand → Hand
joined v w = hand (v.parts + w.parts) (v.holds ++ w.holds)

-- the pass is one of the pool of this table
abbrev pub IsPassIn : TableId → Pass TokenShown Hand → Type 0
IsPassIn table pass = (pass.table_id ≡ table) × (pass.me.1 ≡ [])

-- the pass is one of that pool, and has just these tokens in hand
pub record HasInHand (table : TableId) (pass : Pass TokenShown Hand) (tokens : List TokenShown) : Type 0 where
  pub of : IsPassIn table pass
  pub holds : AreSame (view pass).holds (clients_of tokens)

-- a worker: the tokens that it keeps to its end, and its pass
pub record Working : Type 0 where
  pub kept : List TokenShown
  pub pass : Pass TokenShown Hand
