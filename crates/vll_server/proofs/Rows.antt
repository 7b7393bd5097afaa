-- What whole scenarios print, computed.
use Rattle.std.proofs.Common.{◌≡◌, List, [], ◌∷◌, ◌++◌, Some, None, refl}
use Rattle.std.specs.Prelude.{codes}
use Rattle.std.specs.Fmt.{digits}
use denote.Hole.Carrier.{hidden}
use Rattle.vll_proc.specs.declared.syntax.Edition.TheVariants.{One}
use Rattle.vll_proc.specs.declared.syntax.Expr.TheBlock.{hidden-the_row-Expr-0}
use Rattle.vll_proc.specs.declared.syntax.Stmt.TheBlock.{hidden-the_row-Stmt-0}
use Rattle.vll_proc.specs.declared.syntax.Proc.{Proc}
use Rattle.vll_proc.specs.Headline.Made.{call_of}
use Rattle.vll_proc.proofs.Rows.{transfer_keys, transfer_body, bump_keys, bump_body, sum2_keys, sum2_body, via_keys, via_body}
use Rattle.vll_replay.specs.Headline.Text.{Text}
use Rattle.vll_server.specs.Text.{serial_text}

abbrev transfer : Proc
transfer = record { edition = One; name = codes "transfer"; args = 3; keys = transfer_keys; body = transfer_body }

abbrev bump : Proc
bump = record { edition = One; name = codes "bump"; args = 1; keys = bump_keys; body = bump_body }

abbrev sum2 : Proc
sum2 = record { edition = One; name = codes "sum2"; args = 2; keys = sum2_keys; body = sum2_body }

abbrev via : Proc
via = record { edition = One; name = codes "via"; args = 1; keys = via_keys; body = via_body }

abbrev procs : List Proc
procs = transfer ∷ bump ∷ sum2 ∷ via ∷ []

line : Text → Text
line words = words ++ 10 ∷ []

-- a transfer, and then a read of both records
transfers : serial_text procs (100 ∷ 50 ∷ []) ((0, call_of 2 0 transfer (0 ∷ 1 ∷ 30 ∷ []) None) ∷ (0, call_of 2 2 sum2 (0 ∷ 1 ∷ []) None) ∷ [])
    ≡ line (codes "call 0 client 0 committed 70") ++ line (codes "call 1 client 0 committed 150") ++ line (codes "record 0 value 70 pair 0") ++ line (codes "record 1 value 80 pair 0")
unfolding line digits hidden hidden-the_row-Expr-0
transfers = refl

-- no client
no_clients : serial_text [] (7 ∷ []) [] ≡ line (codes "record 0 value 7 pair 0")
unfolding line digits
no_clients = refl

-- an aborted call leaves its record
overflows : serial_text procs (18446744073709551615 ∷ []) ((0, call_of 1 1 bump (0 ∷ []) None) ∷ [])
    ≡ line (codes "call 0 client 0 aborted overflow") ++ line (codes "record 0 value 18446744073709551615 pair 0")
unfolding line digits hidden hidden-the_row-Expr-0
overflows = refl

-- calls of two clients, in the order in which they entered
in_order : serial_text procs (1 ∷ []) ((1, call_of 1 1 bump (0 ∷ []) None) ∷ (2, call_of 1 2 sum2 (0 ∷ 0 ∷ []) None) ∷ [])
    ≡ line (codes "call 0 client 1 committed 2") ++ line (codes "call 1 client 2 committed 4") ++ line (codes "record 0 value 2 pair 0")
unfolding line digits hidden hidden-the_row-Expr-0
in_order = refl

-- a call that finds its record by another one
finds : serial_text procs (2 ∷ 0 ∷ 7 ∷ []) ((0, call_of 3 3 via (0 ∷ []) (Some 2)) ∷ [])
    ≡ line (codes "call 0 client 0 committed 8") ++ line (codes "record 0 value 2 pair 0") ++ line (codes "record 1 value 0 pair 0") ++ line (codes "record 2 value 8 pair 0")
unfolding line digits hidden hidden-the_row-Expr-0 hidden-the_row-Stmt-0
finds = refl

-- by then, the record in which a call found its record holds another value
moves : serial_text procs (1 ∷ 10 ∷ 20 ∷ []) ((1, call_of 3 1 bump (0 ∷ []) None) ∷ (0, call_of 3 3 via (0 ∷ []) (Some 1)) ∷ [])
    ≡ line (codes "call 0 client 1 committed 2") ++ line (codes "call 1 client 0 aborted moved")
    ++ line (codes "record 0 value 2 pair 0") ++ line (codes "record 1 value 10 pair 0") ++ line (codes "record 2 value 20 pair 0")
unfolding line digits hidden hidden-the_row-Expr-0 hidden-the_row-Stmt-0
moves = refl
