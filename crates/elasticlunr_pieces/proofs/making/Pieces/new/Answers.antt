use Rattle.std.proofs.Common.{rules, ap, ◌∙◌, Vec, Global, map, string_bytes, []}
use Rattle.std.specs.Prelude.{if◌then◌else◌}
use Rattle.std.specs.Borrow.{Bor}
use Rattle.elasticlunr_error.specs.Text.{Bytes, is_listed}
use Rattle.elasticlunr_pieces.specs.Numbers.{told_documents, told_texts}
use Rattle.elasticlunr_pieces.specs.Entries.{title_of}
use Rattle.elasticlunr_pieces.proofs.Made.{begun}
use Rattle.elasticlunr_pieces.proofs.making.Pieces.new.Goals as goal

pub returns-clause-made : goal.returns-clause-made
returns-clause-made c = begun _ c.in_ok-tokens.ensures
    (ap (λ (v : Vec (Bor Bytes) Global). told_texts v.items) c.in_ok-numbers.ensures ∙ c.in_ok-references.ensures.texts)
    c.in_ok-documents.ensures
    (c.in_ok-headings.ensures ∙ ap (λ ds. if is_listed c.args.field.now (map string_bytes c.args.parts.fields.now) then map (title_of c.args.field.now) ds else [])
    (ap told_documents c.deref.ensures.value ∙ c.in_ok-documents.ensures)) (search rules) (search rules) (search rules) (search rules) (search rules) (search rules) (search rules) (search rules) (search rules)
    (search rules) (search rules) (search rules) (search rules) (search rules) (search rules) (search rules)
