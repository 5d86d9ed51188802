use Rattle.std.proofs.Common.{arith}
use Rattle.serde_json.specs.View.{view}
use Rattle.elasticlunr_piece_search.specs.Entries.{list_value}
use Rattle.elasticlunr_piece_search.proofs.Adding.{its_lists, same_length}
use Rattle.elasticlunr_piece_search.proofs.postings.add_fields.Goals as goal

pub returns-then-len-tries-clause-err : goal.returns-then-len-tries-clause-err
returns-then-len-tries-clause-err c lists many few is =
    let vs = c.in-Some.lists.now.items in
    let same = same_length list_value vs lists (its_lists list_value (view c.args.fields.now) vs lists c.in-Some.ensures is) in
    omega (arith, same, many)
