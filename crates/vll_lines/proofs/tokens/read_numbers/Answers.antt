use Rattle.std.proofs.Common.{◌≡◌, ◌-◌, ◌<◌, None, Some, length, ap, ◌∙◌, arith}
use Rattle.json.specs.Json.{after_end_array, items, parse_map, value}
use Rattle.serde_json.specs.Data.{number, unsigned}
use Rattle.serde_json.specs.Read.{converted, of_items}
use Rattle.vll_lines.proofs.Grammar.{item_read, items_over}
use Rattle.vll_lines.proofs.ReadTokens.{numbers_all, numbers_before, one_more_number}
use Rattle.vll_lines.proofs.tokens.read_numbers.Goals as goal

pub items-preserved : goal.items-preserved
items-preserved c =
    let p = value 125 in
    let l = c.items in
    let n = l.invariant.0 in
    let k = c.in_ok-read_number.field-0 in
    let r = c.read_number.new.reader in
    let going : (after_end_array l.reader ≡ None) × (c.take_end_array.new.self ≡ l.reader) = grind arith in
    let done = c.in_ok-read_number.ensures in
    let less : length r < length l.reader = rw (← going.1) done.shorter in
    let turn = item_read p n l.reader r (number (unsigned k)) (omega (arith, l.invariant.1)) going.0 (rw (← going.1) (done.read 125)) in (
      n - 1,
      omega (arith, l.invariant.1),
      l.invariant.2 ∙ ap (parse_map (numbers_before l.args.items)) turn ∙ one_more_number l.args.items k _
          ∙ ap (λ ns. parse_map (numbers_before ns) (converted of_items (items p (n - 1) r))) (grind arith),
      omega (arith, l.invariant.3),
    )

pub returns-clause-read : goal.returns-clause-read
returns-clause-read c =
    let l = c.items in
    let n = l.invariant.0 in
    let r = c.take_end_array.new.self in
    l.invariant.2 ∙ ap (parse_map (numbers_before l.args.items)) (items_over (value 125) n l.reader r l.invariant.1 (grind arith)) ∙ ap (λ ds. Some (ds, r)) (numbers_all l.args.items)
