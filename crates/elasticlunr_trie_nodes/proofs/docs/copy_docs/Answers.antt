use Rattle.std.proofs.Common.{Some, sym, ap, ◌∙◌, arith, length, subst, option_map}
use Rattle.std.specs.Str.{chars}
use Rattle.std.specs.FinMap.{entries}
use Rattle.elasticlunr_trie_nodes.specs.Table.{postings_of}
use Rattle.elasticlunr_trie_nodes.specs.Names.{ArePostings, named_pairs}
use Rattle.elasticlunr_trie_nodes.specs.Nodes.{postings_at}
use Rattle.elasticlunr_trie_nodes.specs.Trie.{entries_at, step_of, named}
use Rattle.elasticlunr_trie_nodes.specs.declared.nodes.Place.TheVariants.{Root, At}
use Rattle.elasticlunr_trie_nodes.proofs.Forest.{within}
use Rattle.elasticlunr_trie_nodes.proofs.Named.{no_names, pairs_are, pairs_named}
use Rattle.elasticlunr_trie_nodes.proofs.docs.copy_docs.Goals as goal

pub postings_at-requires : goal.postings_at-requires
postings_at-requires c =
    within (step_of c.args.root.now c.args.nodes.now) (length c.args.nodes.now) c.requires.trie.forest
    (chars c.args.token.now) Root (At c.in-Some-At.k) (omega arith) (sym c.find.ensures ∙ c.in-Some-At.is
    ∙ ap Some c.in-Some-At.field-0-is)

pub copy_postings-requires-clause-postings : goal.copy_postings-requires-clause-postings
copy_postings-requires-clause-postings c =
    subst (ArePostings c.args.names.now) (sym (ap entries c.postings_at.ensures))
    (pairs_are c.args.names.now (postings_at c.args.nodes.now c.in-Some-At.k)
    (c.requires.numbered c.in-Some-At.k))

pub returns-in-Some-Root : goal.returns-in-Some-Root
returns-in-Some-Root c =
    let leads = sym c.find.ensures ∙ c.in-Some-Root.is ∙ ap Some c.in-Some-Root.field-0-is in
    ap Some (ap postings_of c.new.ensures.empty ∙ sym (no_names c.args.names.now))
    ∙ sym (ap (option_map (λ q. named c.args.names.now (entries_at c.args.root.now c.args.nodes.now q))) leads)

pub returns-in_ok-docs-in-Some-At : goal.returns-in_ok-docs-in-Some-At
returns-in_ok-docs-in-Some-At c =
    let leads = sym c.find.ensures ∙ c.in-Some-At.is ∙ ap Some c.in-Some-At.field-0-is in
    let P = postings_at c.args.nodes.now c.in-Some-At.k in
    ap Some (c.in_ok-docs-in-Some-At.ensures
    ∙ ap (named_pairs c.args.names.now) (ap entries c.postings_at.ensures)
    ∙ sym (pairs_named c.args.names.now P (c.requires.numbered c.in-Some-At.k) c.requires.names))
    ∙ sym (ap (option_map (λ q. named c.args.names.now (entries_at c.args.root.now c.args.nodes.now q))) leads)
