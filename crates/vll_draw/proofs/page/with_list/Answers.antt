use Rattle.std.proofs.Common.{string_bytes}
use Rattle.vll_draw.proofs.page.with_list.Goals as goal

pub returns : goal.returns
returns c = record { drawn = string_bytes c.args.drawn; whole = c.in_ok-push_list.ensures }
