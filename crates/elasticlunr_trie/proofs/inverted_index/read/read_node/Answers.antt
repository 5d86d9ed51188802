use Rattle.std.proofs.Common.{Some, sym, ap, ◌∙◌, true≢false, codes}
use Rattle.serde_json.specs.Data.{number, unsigned}
use Rattle.serde_json.specs.Find.{get}
use Rattle.serde_json.specs.View.{members_view}
use Rattle.elasticlunr_trie.proofs.Finishing.{len_postings}
use Rattle.elasticlunr_json.proofs.ReadingMaps.{object_of}
use Rattle.elasticlunr_trie.proofs.Refusing.{count_told, foreign_key}
use Rattle.elasticlunr_json.proofs.Refusals.{refused_again}
use Rattle.elasticlunr_trie.proofs.inverted_index.read.read_node.Goals as goal

pub returns-then-not-has_count-clause-foreign : goal.returns-then-not-has_count-clause-foreign
returns-then-not-has_count-clause-foreign c T p table tree =
    let counted = c.len.ensures.len ∙ sym (len_postings c.in_ok-postings.postings.entries c.len.ensures.ordered) in
    let told = count_told T p _ _ _ c.in_ok-postings.postings.entries c.len.result (object_of _ _ c.in-Some.ensures)
    tree c.in-Some-get.ensures c.in_ok-postings.ensures.ok counted in
    true≢false (sym (c.has_count.ensures.1 told) ∙ c.if-not-has_count.true)

pub returns-in_err-children-clause-foreign : goal.returns-in_err-children-clause-foreign
returns-in_err-children-clause-foreign c =
    refused_again _ _ (λ foreign T p table tree. foreign_key T p _ _ (object_of _ _ c.in-Some.ensures) table tree
    foreign)
    c.in_err-children.field-0.0 c.from_residual-in_err-children.result c.from_residual-in_err-children.ensures.1
    c.in_err-children.ensures.foreign

pub returns-clause-ok : goal.returns-clause-ok
returns-clause-ok c =
    let is = object_of _ _ c.in-Some.ensures in
    let reads = c.in_ok-children.ensures.ok in
    let counted = c.len.ensures.len ∙ sym (len_postings c.in_ok-postings.postings.entries c.len.ensures.ordered) in
    record {
      values = reads.values;
      members = members_view c.in-Some.members.now.entries;
      is = is;
      node = record {
        order = c.in_ok-children.ensures.order;
        docs_there = ap (get (codes "docs")) (sym is) ∙ sym c.in-Some-get.ensures ∙ ap Some c.in_ok-postings.ensures.ok;
        df_there = ap (get (codes "df")) (sym is) ∙ c.has_count.ensures.0 c.if-not-has_count.false
            ∙ ap (λ n. Some (number (unsigned n))) counted;
        present = reads.present;
        only = reads.only;
      };
    }
