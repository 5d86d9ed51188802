use Rattle.std.proofs.Common.{arith, rules, string_bytes}
use Rattle.elasticlunr_pieces.proofs.Growing.{whole_group}
use Rattle.elasticlunr_pieces.proofs.cut.cut_from.Goals as goal

pub returns-clause-cut : goal.returns-clause-cut
returns-clause-cut g c first = whole_group (g.E.Entries.texts c.args.entries.now) c.args.form c.args.from _
    (string_bytes c.in_ok-text.text) c.args.first.now (string_bytes c.push_str.new.self) (string_bytes
    c.extend.new.text)
    c.requires.there first c.in_ok-text.ensures.ok (search rules)
    c.in_ok-stop.ensures.extends c.in_ok-stop.ensures.stops (search rules)

pub returns-clause-further : goal.returns-clause-further
returns-clause-further g c = let many = c.in_ok-stop.ensures.extends.many in omega (arith, many)
