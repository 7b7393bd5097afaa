use Rattle.std.proofs.Common.{◌^◌, ◌<◌, arith}
use Rattle.serde_json.specs.Data.{array, number, string, unsigned}
use Rattle.vll_lines.specs.Private.Tokens.{numbers_in}
use Rattle.vll_lines.proofs.Says.{told_args, told_client, told_id, told_name}
use Rattle.vll_lines.proofs.tokens.read_member.Goals as goal

pub returns-in_ok-read_id-in-id-clause-read : goal.returns-in_ok-read_id-in-id-clause-read
returns-in_ok-read_id-in-id-clause-read c =
    let got = c.in_ok-read_id-in-id.ensures.read in
    (got.0, got.1, λ found says. told_id c.args.told.now c.args.args.now.items found c.args.key.now got.0 c.in_ok-read_id-in-id.field-0 c.in-id.is got.2 says)

pub returns-in_ok-number-in-client-clause-read : goal.returns-in_ok-number-in-client-clause-read
returns-in_ok-number-in-client-clause-read c =
    let n = c.in_ok-number-in-client.number in
    let small : n < 2 ^ 32 = omega arith in
    (number (unsigned n), c.in_ok-number-in-client.ensures.read, λ found says. told_client c.args.told.now c.args.args.now.items found c.args.key.now n c.in-client.is small says)

pub returns-in_ok-read_text-in-proc-clause-read : goal.returns-in_ok-read_text-in-proc-clause-read
returns-in_ok-read_text-in-proc-clause-read c =
    let s = c.in_ok-read_text-in-proc.field-0 in
    (string s.now, c.in_ok-read_text-in-proc.ensures.read, λ found says. told_name c.args.told.now c.args.args.now.items found c.args.key.now s c.in-proc.is says)

pub returns-in_ok-read_args-in-args-clause-read : goal.returns-in_ok-read_args-in-args-clause-read
returns-in_ok-read_args-in-args-clause-read c =
    let args = c.read_args.new.args.items in
    (array (numbers_in args), c.in_ok-read_args-in-args.ensures.read, λ found says. told_args c.args.told.now c.args.args.now.items args found c.args.key.now c.in-args.is says)
