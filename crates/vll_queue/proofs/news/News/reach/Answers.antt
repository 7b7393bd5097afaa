use Rattle.std.proofs.Common.{rules}
use Rattle.vll_queue.proofs.Hearing.{hears_news}
use Rattle.vll_queue.proofs.news.News.reach.Goals as goal

pub returns-clause-heard : goal.returns-clause-heard
returns-clause-heard g c = hears_news c.args.session.now.session c.hear.new.session.session c.args.self.calls (search rules)
