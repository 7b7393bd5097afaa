use Rattle.std.proofs.Common.{◌∙◌, ap, ap₂, map, List, ℕ, length}
use Rattle.vll_check.proofs.Common.{MOST_CLAIMS, MOST_ARGS, laid, claims_of, Claim, Call, asked_by, cell_of}
use Rattle.vll_check.proofs.making.call_of.Goals as goal

pub returns : goal.returns
returns c =
    let naming = c.args.naming in
    let n = naming.records in
    let args = naming.args.now in
    let keys = c.as_slice-keys.ensures in
    let claims = c.claims_of-claims.ensures ∙ ap (λ ks. claims_of (asked_by n args naming.found ks)) keys in
    let cells = c.cells_of.ensures ∙ ap₂ (λ cs ks. laid MOST_CLAIMS 0 (map (cell_of n cs args naming.found) ks)) claims keys in
    let call : List ℕ → List Claim → List ℕ → Call = λ xs cs ys. record { number = c.args.number; arg_count = length args; args = xs; found = naming.found; claims = cs; cells = ys } in
    ap (λ xs. call xs c.claims_of-claims.result c.cells_of.result) c.args_of.ensures ∙ ap₂ (call (laid MOST_ARGS 0 args)) claims cells
