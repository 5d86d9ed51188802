use Rattle.std.proofs.Common.{arith, option_map, string_bytes}
use Rattle.std.proofs.lemmas.List.{length-map}
use Rattle.serde_json.specs.Data.{string}
use Rattle.serde_json.specs.View.{view}
use Rattle.elasticlunr_error.specs.Text.{bytes_of}
use Rattle.elasticlunr_json.specs.Maps.{keyed}
use Rattle.elasticlunr_piece_search.proofs.Adding.{its_lists, same_length}
use Rattle.elasticlunr_piece_search.proofs.Filling.{as_many}
use Rattle.elasticlunr_piece_search.proofs.texts.add_documents.Goals as goal

pub returns-then-len-references-clause-err : goal.returns-then-len-references-clause-err
returns-then-len-references-clause-err c texts is each =
    let vs = c.in-Some.documents.now.items in
    let same = same_length (keyed string) vs texts
    (its_lists (keyed string) (view c.args.documents.now) vs texts c.in-Some.ensures is) in
    let many = as_many (option_map (λ n. n.now) c.args.name) (bytes_of c.args.references.now) texts each in
    let counted = length-map c.args.references.now string_bytes in
    omega (arith, same, many, counted)
