use Rattle.std.proofs.Common.{[], ◌∷◌, ◌++◌, sym, ap, subst, ◌∙◌, append_assoc, append-nil, string_bytes, String}
use Rattle.std.proofs.Common.{Global, ℕ}
use Rattle.std.specs.FinMap as finite
use Rattle.std.proofs.lemmas.Cmp.{nat_list_cmp_total}
use Rattle.std.proofs.lemmas.Str.{IsUtf8-string_bytes}
use Rattle.std.specs.Str.{IsUtf8}
use Rattle.elasticlunr_trie_nodes.specs.Names.{AreNames, at}
use Rattle.elasticlunr_trie_nodes.specs.Nodes.{IsListed}
use Rattle.elasticlunr_trie_nodes.proofs.Added.{names_entered}
use Rattle.elasticlunr_trie_nodes.proofs.Entries.{bytes_of}
use Rattle.elasticlunr_json.proofs.Sorted.{get_entry}
use Rattle.elasticlunr_trie_nodes.proofs.Gathered.{Gathered, gathered_none, gathered_step, gathered_all, extends_same}
use Rattle.elasticlunr_trie_nodes.proofs.Gathered.{extends_on, extends_entered, none_listed_yet, nobody_at, bytes_push}
use Rattle.elasticlunr_trie_nodes.proofs.Settled.{same_named}
use Rattle.elasticlunr_trie_nodes.proofs.Tables.{get_named}
use Rattle.std.proofs.Common.{rules}
use Rattle.elasticlunr_trie_nodes.proofs.numbered.number_docs.Goals as goal

pub loop-doc_ref-init : goal.loop-doc_ref-init
loop-doc_ref-init c = record {
  names_are = c.requires;
  extends = extends_same c.args.names.now;
  keeps = λ n k h. h;
  listed = subst (IsListed c.args.names.now c.args.references.now.items c.args.k) (sym c.in_ok-postings.ensures)
      (none_listed_yet c.args.names.now c.args.references.now.items c.args.k);
  done = [];
  split = c.into_iter-doc_ref-iterator.ensures.into_iter_gives ∙ c.iter-doc_ref-items.ensures.rest;
  gathered = gathered_none _ _ (λ r. ap (at c.args.names.now r) c.in_ok-postings.ensures
      ∙ nobody_at c.args.names.now r);
}

pub put_posting-requires : goal.put_posting-requires
put_posting-requires c = record { listed = c.loop-doc_ref.invariant.listed }

pub loop-doc_ref-preserved : goal.loop-doc_ref-preserved
loop-doc_ref-preserved c =
    let held = c.loop-doc_ref.invariant in
    let e : String Global × ℕ = (c.in-Some.doc_ref.now, c.in-Some.frequency.now) in
    let r = string_bytes c.in-Some.doc_ref.now in
    let d = c.deref.result.now in
    let key = c.deref.ensures in
    let more = append_assoc held.done (e ∷ []) c.next.new.self
    ∙ ap (λ xs. held.done ++ xs) (sym c.in-Some.ensures.steps) ∙ held.split in
    let all = c.args.docs.now.entries in
    let found = sym (finite.get-from_entries nat_list_cmp_total (bytes_of all) r)
    ∙ get_entry (λ n. n) all held.done e c.next.new.self (ap (λ xs. held.done ++ xs) (sym c.in-Some.ensures.steps)
    ∙ held.split) c.iter-doc_ref-items.ensures.ordered in
    let ok = c.in_ok-put_posting.ensures in
    record {
      names_are = subst AreNames (sym ok.names)
          (names_entered c.loop-doc_ref.names held.names_are d
          (subst IsUtf8 (sym key) (IsUtf8-string_bytes c.in-Some.doc_ref.now)));
      extends = extends_on _ _ _ held.extends (extends_entered c.loop-doc_ref.names c.put_posting.new.names d ok.names);
      keeps = λ n k h. ok.keeps n k (held.keeps n k h);
      listed = ok.listed;
      done = held.done ++ e ∷ [];
      split = more;
      gathered = subst (λ es. Gathered (λ q. at c.put_posting.new.names q c.put_posting.new.postings) es (bytes_of all))
          (sym (bytes_push held.done e))
          (gathered_step _ _ _ _ (r, c.in-Some.frequency.now) held.gathered found
          (ap (λ x. at c.put_posting.new.names x c.put_posting.new.postings) (sym key) ∙ ok.set)
          (λ q apart. ok.others q (λ is. apart (is ∙ key))));
    }

pub returns-clause-same : goal.returns-clause-same
returns-clause-same c =
    let held = c.loop-doc_ref.invariant in
    let all = sym (append-nil held.done) ∙ ap (λ es. held.done ++ es) (sym c.in-None.ensures.steps.0) ∙ held.split in
    same_named _ _ (λ r.
    get_named c.loop-doc_ref.names c.loop-doc_ref.postings r
    ∙ gathered_all _ _ (subst (λ es. Gathered (λ q. at c.loop-doc_ref.names q c.loop-doc_ref.postings) (bytes_of es)
    (bytes_of c.args.docs.now.entries)) all held.gathered) r
    ∙ sym (finite.get-from_entries nat_list_cmp_total (bytes_of c.args.docs.now.entries) r))

pub returns-clause-names : goal.returns-clause-names
returns-clause-names c = search rules

pub returns-clause-extends : goal.returns-clause-extends
returns-clause-extends c = search rules

pub returns-clause-keeps : goal.returns-clause-keeps
returns-clause-keeps c = search rules

pub returns-clause-listed : goal.returns-clause-listed
returns-clause-listed c = search rules
