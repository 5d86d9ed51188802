use Rattle.std.proofs.Common.{Some, sym, ap, ◌∙◌, arith, length}
use Rattle.std.specs.Str.{chars}
use Rattle.std.specs.FinMap.{get}
use Rattle.elasticlunr_trie_nodes.specs.Trie.{step_of, named}
use Rattle.elasticlunr_trie_nodes.specs.declared.nodes.Place.TheVariants.{Root, At}
use Rattle.elasticlunr_trie_nodes.proofs.Forest.{within}
use Rattle.elasticlunr_trie_nodes.proofs.Tables.{postings_walk, no_postings}
use Rattle.elasticlunr_trie_nodes.proofs.Named.{no_names}
use Rattle.elasticlunr_trie_nodes.proofs.nodes.find_postings.Goals as goal

pub postings_at-requires : goal.postings_at-requires
postings_at-requires c =
    within (step_of c.args.root.now c.args.nodes.now) (length c.args.nodes.now) c.requires.forest
    (chars c.args.token.now) Root (At c.in-Some-At.k) (omega arith) (sym c.find.ensures ∙ c.in-Some-At.is
    ∙ ap Some c.in-Some-At.field-0-is)

pub returns-in-Some-At-clause-postings : goal.returns-in-Some-At-clause-postings
returns-in-Some-At-clause-postings c = λ names.
    postings_walk c.args.root.now c.args.nodes.now c.requires names (chars c.args.token.now) (At c.in-Some-At.k)
    (sym c.find.ensures ∙ c.in-Some-At.is ∙ ap Some c.in-Some-At.field-0-is)
    ∙ ap (named names) (sym c.postings_at.ensures)

pub returns-in-Some-At-clause-numbered : goal.returns-in-Some-At-clause-numbered
returns-in-Some-At-clause-numbered c = λ names numbered n f e. numbered c.in-Some-At.k n f
    (ap (λ P. get P n) (sym c.postings_at.ensures) ∙ e)

pub returns-in-Some-Root-clause-postings : goal.returns-in-Some-Root-clause-postings
returns-in-Some-Root-clause-postings c = λ names. postings_walk c.args.root.now c.args.nodes.now c.requires names
    (chars c.args.token.now) Root (sym c.find.ensures ∙ c.in-Some-Root.is ∙ ap Some c.in-Some-Root.field-0-is)

pub returns-in-None-clause-postings : goal.returns-in-None-clause-postings
returns-in-None-clause-postings c = λ names. no_postings c.args.root.now c.args.nodes.now c.requires names
    (chars c.args.token.now) (sym c.find.ensures ∙ c.in-None.is) ∙ sym (no_names names)
