-- The procedures of the worked rows, calls of them, and openings.
use Rattle.std.proofs.Common.{ℕ, List, [], ◌∷◌, None}
use Rattle.vll_core.proofs.Common.{Read, Write, Call, Proc, Opening}
use Rattle.std.specs.Prelude.{codes}
use Rattle.vll_proc.specs.declared.syntax.Edition.TheVariants.{One}
use Rattle.vll_proc.specs.declared.syntax.KeyAt.TheVariants as at
use Rattle.vll_proc.specs.declared.syntax.Expr.{Num, Arg, Key, Add, Sub}
use Rattle.vll_proc.specs.declared.syntax.Stmt.{Set, Reply}
use Rattle.vll_proc.specs.Headline.Made.{call_of}
use Rattle.vll_sca.specs.Placing.{placing}
use Rattle.vll_sca.specs.declared.place.Placing.TheVariants.{Modulo}

abbrev pub transfer : Proc
transfer = record {
  edition = One;
  name = codes "transfer";
  args = 3;
  keys = record { mode = Write; at = at.Arg 0 } ∷ record { mode = Write; at = at.Arg 1 } ∷ [];
  body = Set 0 (Sub (Key 0) (Arg 2)) ∷ Set 1 (Add (Key 1) (Arg 2)) ∷ Reply (Key 0) ∷ [];
}

abbrev pub bump : Proc
bump = record {
  edition = One;
  name = codes "bump";
  args = 1;
  keys = record { mode = Write; at = at.Arg 0 } ∷ [];
  body = Set 0 (Add (Key 0) (Num 1)) ∷ Reply (Key 0) ∷ [];
}

abbrev pub read : Proc
read = record {
  edition = One;
  name = codes "read";
  args = 1;
  keys = record { mode = Read; at = at.Arg 0 } ∷ [];
  body = Reply (Key 0) ∷ [];
}

abbrev pub seven : Proc
seven = record { edition = One; name = codes "seven"; args = 0; keys = []; body = Reply (Num 7) ∷ [] }

abbrev pub via : Proc
via = record {
  edition = One;
  name = codes "via";
  args = 1;
  keys = record { mode = Read; at = at.Arg 0 } ∷ record { mode = Write; at = at.Through 0 } ∷ [];
  body = Set 1 (Add (Key 1) (Num 1)) ∷ Reply (Key 1) ∷ [];
}

-- the calls as a library makes them: nothing is found yet, so how many records there are plays no part
abbrev pub transfer_call : ℕ → ℕ → ℕ → Call
transfer_call a b n = call_of 0 0 transfer (a ∷ b ∷ n ∷ []) None

abbrev pub bump_call : ℕ → Call
bump_call r = call_of 0 1 bump (r ∷ []) None

abbrev pub read_call : ℕ → Call
read_call r = call_of 0 2 read (r ∷ []) None

abbrev pub seven_call : Call
seven_call = call_of 0 3 seven [] None

abbrev pub via_call : ℕ → Call
via_call r = call_of 0 4 via (r ∷ []) None

-- these procedures on the given records, for at most `limit` calls, of which at most 8 wait; the analysis has 64 bits
abbrev pub opening : List ℕ → ℕ → Opening
opening records limit = record {
  base = record { procs = transfer ∷ bump ∷ read ∷ seven ∷ via ∷ []; records = records };
  cap = 8;
  limit = limit;
  bits = 64;
  place = placing Modulo;
}
