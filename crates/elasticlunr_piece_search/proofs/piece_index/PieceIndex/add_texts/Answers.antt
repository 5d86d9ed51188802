use Rattle.std.proofs.Common.{◌≡◌, ◌+◌, Some, List, option_map, string_bytes, sym, ap, subst, ◌∙◌}
use Rattle.std.specs.List.{AllZip}
use Rattle.serde_json.specs.Data.{string}
use Rattle.serde_json.specs.Read.{read}
use Rattle.serde_json.specs.View.{view}
use Rattle.elasticlunr_error.specs.Text.{bytes_of}
use Rattle.elasticlunr_json.specs.Maps.{keyed}
use Rattle.elasticlunr_piece_head.specs.Head.{documents_before}
use Rattle.elasticlunr_piece_head.specs.Values.{array_of}
use Rattle.elasticlunr_piece_search.specs.Texts.{HasReference, reference_name, references_at, with_texts}
use Rattle.elasticlunr_piece_search.proofs.Entering.{on_ok, one_value}
use Rattle.elasticlunr_piece_search.proofs.Filling.{bytes_range}
use Rattle.elasticlunr_piece_search.proofs.Others.{no_texts}
use Rattle.elasticlunr_piece_search.proofs.piece_index.PieceIndex.add_texts.Goals as goal

pub returns-clause-added : goal.returns-clause-added
returns-clause-added c =
    let head = c.args.self.now.head.now in
    let n = c.args.number in
    let references = ap bytes_of c.in-Some.ensures.some ∙ bytes_range head.references.items
    (documents_before head.texts.items n) (documents_before head.texts.items (n + 1)) in
    on_ok c.add_documents.result _ _ (λ done.
    let (texts, is, each, stored) = done in (
      texts,
      record {
        size = cc (c.in_ok-documents.ensures.size);
        there = c.in-Some.ensures.there;
        reads = c.in_ok-documents.ensures.value ∙ ap Some is;
        each = subst (λ name. AllZip (HasReference name) (references_at head n) texts) c.reference_name.ensures
            (subst (λ rs. AllZip (HasReference (option_map (λ name. name.now) c.reference_name.result)) rs texts)
            references each);
      },
      stored ∙ ap (λ rs. with_texts c.args.self.now.store rs texts) references,
    )) c.add_documents.ensures.added

pub returns-clause-fault : goal.returns-clause-fault
returns-clause-fault c =
    let head = c.args.self.now.head.now in
    let n = c.args.number in
    let references = ap bytes_of c.in-Some.ensures.some ∙ bytes_range head.references.items
    (documents_before head.texts.items n) (documents_before head.texts.items (n + 1)) in
    no_texts head n c.args.text.now _ (λ none documents piece. none documents
    (one_value (view c.in_ok-documents.documents) (array_of (keyed string) documents) (read c.args.text.now)
    c.in_ok-documents.ensures.value piece.reads)
    (subst (λ rs. AllZip (HasReference (option_map (λ name. name.now) c.reference_name.result)) rs documents)
    (sym references) (subst (λ name. AllZip (HasReference name) (references_at head n) documents)
    (sym c.reference_name.ensures) piece.each))) c.add_documents.result c.add_documents.ensures.err
