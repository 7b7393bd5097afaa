-- The call of a procedure with given arguments, and its claims.
use Rattle.std.specs.Prelude.{ℕ, suc, ◌==◌, List, [], ◌∷◌, map, length, Option, Some, None, if◌then◌else◌}
use Rattle.vll_record.specs.declared.claims.TheConstants.{MOST_CLAIMS}
use Rattle.vll_proc.specs.declared.limits.TheConstants.{MOST_ARGS}
use Rattle.vll_record.specs.declared.claim.Claim.{Claim}
use Rattle.vll_record.specs.declared.claim.Mode.{Mode}
use Rattle.vll_record.specs.Headline.Claim.{claims_of}
use Rattle.vll_record.specs.Headline.Canon.{laid}
use Rattle.vll_proc.specs.declared.call.Call.{Call}
use Rattle.vll_proc.specs.declared.syntax.KeyDecl.{KeyDecl}
use Rattle.vll_proc.specs.declared.syntax.Proc.{Proc}
use Rattle.vll_proc.specs.Headline.Meaning.{record_named}

-- a key position asks for the record that it names, and for none if it names none
abbrev pub asking : Mode → Option ℕ → List Claim → List Claim
asking m (Some r) others = record { id = r; mode = m } ∷ others
asking m None others = others

-- what key positions ask for among `count` records
abbrev pub asked_by : ℕ → List ℕ → Option ℕ → List KeyDecl → List Claim
asked_by count args found [] = []
asked_by count args found (k ∷ ks) = asking k.mode (record_named count args found k.at) (asked_by count args found ks)

-- what a procedure's key positions ask for
abbrev pub asked : ℕ → Proc → List ℕ → Option ℕ → List Claim
asked count p args found = asked_by count args found p.keys

-- the index of a record's claim
abbrev pub place_of : List Claim → ℕ → ℕ
place_of [] r = 0
place_of (c ∷ cs) r = if c.id == r then 0 else suc (place_of cs r)

-- the index of the claim on the record that a key position names, and 0 if it names none
abbrev pub place_for : List Claim → Option ℕ → ℕ
place_for cs (Some r) = place_of cs r
place_for cs None = 0

-- the call of procedure number n with these arguments and this value found,
-- among `count` records: its claims are those of its key positions
abbrev pub call_of : ℕ → ℕ → Proc → List ℕ → Option ℕ → Call
call_of count n p args found = record {
  number = n;
  arg_count = length args;
  args = laid MOST_ARGS 0 args;
  found = found;
  claims = claims_of (asked count p args found);
  cells = laid MOST_CLAIMS 0 (map (λ (k : KeyDecl). place_for (claims_of (asked count p args found)) (record_named count args found k.at)) p.keys);
}
