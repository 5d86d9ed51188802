use Rattle.std.proofs.Common.{Some, sym, ap, ◌∙◌, arith, length, refl}
use Rattle.std.specs.Str.{chars}
use Rattle.elasticlunr_trie_nodes.specs.Names.{at}
use Rattle.elasticlunr_trie_nodes.specs.Trie.{step_of}
use Rattle.elasticlunr_trie_nodes.specs.declared.nodes.Place.TheVariants.{Root, At}
use Rattle.elasticlunr_trie_nodes.proofs.Forest.{within}
use Rattle.elasticlunr_trie_nodes.proofs.Adding.{posting_walk, posting_none}
use Rattle.elasticlunr_trie_nodes.proofs.Settled.{bare_root}
use Rattle.elasticlunr_trie_nodes.proofs.nodes.find_frequency.Goals as goal

pub postings_at-requires : goal.postings_at-requires
postings_at-requires c =
    within (step_of c.args.root.now c.args.nodes.now) (length c.args.nodes.now) c.requires.forest
    (chars c.args.token.now) Root (At c.in-Some-At.k) (omega arith) (sym c.find.ensures ∙ c.in-Some-At.is
    ∙ ap Some c.in-Some-At.field-0-is)

pub returns-in-Some-At : goal.returns-in-Some-At
returns-in-Some-At c =
    c.frequency_of.ensures ∙ ap (at c.args.names.now c.args.doc_ref.now) c.postings_at.ensures
    ∙ sym (posting_walk c.args.root.now c.args.nodes.now c.requires c.args.names.now (chars c.args.token.now)
    (At c.in-Some-At.k) c.args.doc_ref.now (sym c.find.ensures ∙ c.in-Some-At.is
    ∙ ap Some c.in-Some-At.field-0-is))

pub returns-in-Some-Root : goal.returns-in-Some-Root
returns-in-Some-Root c =
    sym (posting_walk c.args.root.now c.args.nodes.now c.requires c.args.names.now (chars c.args.token.now) Root
    c.args.doc_ref.now (sym c.find.ensures ∙ c.in-Some-Root.is ∙ ap Some c.in-Some-Root.field-0-is)
    ∙ bare_root c.args.names.now c.args.doc_ref.now _ refl c.args.root.now c.args.nodes.now)

pub returns-in-None : goal.returns-in-None
returns-in-None c = sym (posting_none c.args.root.now c.args.nodes.now c.requires c.args.names.now
    (chars c.args.token.now) c.args.doc_ref.now (sym c.find.ensures ∙ c.in-None.is))
