use Rattle.std.proofs.Common.{[], ◌∷◌, ◌++◌, take, get_or, refl, sym, ap, subst, ◌∙◌, arith}
use Rattle.std.proofs.lemmas.List.{map-append}
use Rattle.std.proofs.lemmas.List.Elements.{All-push}
use Rattle.std.specs.Prelude.{IsTrue}
use Rattle.std.specs.Borrow.{Bor}
use Rattle.elasticlunr_text.specs.Text.{Bytes}
use Rattle.elasticlunr_trie.specs.Table.{Table}
use Rattle.elasticlunr.specs.Fields.{borrowed, has_name}
use Rattle.elasticlunr_search.specs.Standing.{AreTriesOf, HasFieldsOf, fields_of}
use Rattle.elasticlunr_search.specs.Tries.{IsTrieOf, tables_of}
use Rattle.elasticlunr_search.proofs.FieldTries.{push}
use Rattle.elasticlunr_search.proofs.Joining.{next_field}
use Rattle.elasticlunr_search.proofs.searcher.Searcher.tries.Goals as goal

pub loop-field-preserved : goal.loop-field-preserved
loop-field-preserved g c =
    let searcher = c.args.self.now in
    let fields = c.args.fields.now in
    let i = c.loop-field.field-index in
    let other : Bor Bytes = record { ref_ptr = (0, 0); now = [] } in
    let field = (get_or fields i other).now in
    let before = borrowed (take i fields) in
    let more = next_field fields i other (omega arith) in
    let tries = c.loop-field.tries.items in
    let trie = c.in-Some.trie in
    let longer = ap tables_of c.in_ok-push.ensures.items ∙ map-append (λ (t : Bor Table). t.now) tries (trie ∷ []) in
    let all = push (IsTrieOf (fields_of searcher) searcher.printed.tries.items) before (tables_of tries) field trie.now
    c.loop-field.invariant.1 c.in-Some.ensures.trie in (
      subst (HasFieldsOf searcher) (sym more) (All-push (λ name. IsTrue (has_name name (fields_of searcher))) before
          field c.loop-field.invariant.0 (c.in-Some.ensures.there.0 refl)),
      subst (λ names. AreTriesOf searcher names (tables_of c.push.new.self.items)) (sym more)
          (subst (AreTriesOf searcher (before ++ field ∷ [])) (sym longer) all),
    )
