use Rattle.std.proofs.Common.{rules, ◌≡◌, ◌||◌, [], get_or, ap, sym, subst, ◌∙◌, arith}
use Rattle.std.proofs.lemmas.Iterator.{items_from_collect}
use Rattle.std.proofs.lemmas.Iterator.Consumers.{YieldsList-from_rest}
use Rattle.std.proofs.lemmas.Iterator.Adapters.{fact_from_extend, YieldsList-from_vec}
use Rattle.std.proofs.lemmas.List.{take_all}
use Rattle.std.proofs.lemmas.List.Elements.{All-nil, All-push}
use Rattle.std.proofs.lemmas.Result.{IfOk-at_ok}
use Rattle.std.specs.Prelude.{IsTrue}
use Rattle.std.specs.Borrow.{Bor}
use Rattle.elasticlunr_text.specs.Stages.{IsRunBy}
use Rattle.elasticlunr_text.specs.Text.{Bytes, bytes_of, is_listed}
use Rattle.elasticlunr_trie.proofs.Keys.{keys_sorted}
use Rattle.elasticlunr.specs.Fields.{borrowed, has_name}
use Rattle.elasticlunr.specs.Reading.{LanguageReads}
use Rattle.elasticlunr_search.specs.Query.{RunReads}
use Rattle.elasticlunr_search.specs.Standing.{fields_of, HasFieldsOf}
use Rattle.elasticlunr_search.specs.Words.{IsFoundFor}
use Rattle.elasticlunr_search.proofs.Requested.{searched}
use Rattle.elasticlunr_search.proofs.Joining.{all_joined, joined_more, next_field}
use Rattle.elasticlunr_search.proofs.Several.{are_found, found_in_tries}
use Rattle.elasticlunr_search.proofs.Sets.{union_with}
use Rattle.elasticlunr_search.proofs.searcher.Searcher.find_in.Goals as goal

pub loop-field-init : goal.loop-field-init
loop-field-init g c = (
  All-nil (λ name. IsTrue (has_name name (fields_of c.args.self.now))),
  record { parts = []; each = tt; in_one = λ r. ap (λ ks. is_listed r (bytes_of ks)) c.new-found.ensures.empty },
)

pub loop-field-preserved : goal.loop-field-preserved
loop-field-preserved g c =
    let searcher = c.args.self.now in
    let i = c.loop-field.field-index in
    let other : Bor Bytes = record { ref_ptr = (0, 0); now = [] } in
    let field = (get_or c.args.fields.now i other).now in
    let more = next_field c.args.fields.now i other (omega arith) in
    let before = c.loop-field.found.keys in
    let added = c.in_ok-references.references.items in
    let after = c.extend.new.self.keys in
    let both = IfOk-at_ok (λ _. (q : Bytes) → is_listed q (bytes_of after)
    ≡ (is_listed q (bytes_of before) || is_listed q (bytes_of added))) c.in_ok-extend.was
    (fact_from_extend (λ x. x) c.extend.result c.extend.ensures.ran
    (λ it b. YieldsList-from_vec {s = it} added b.0 (b.1 ∙ c.in_ok-references.references.ok.0))
    (λ xs e h. union_with before xs after added h.0 e)) in (
      subst (HasFieldsOf searcher) (sym more) (All-push (λ name. IsTrue (has_name name (fields_of searcher))) _ field
          c.loop-field.invariant.0 (searched (has_name field (fields_of searcher))
          c.in_ok-references.ensures.no_field.1)),
      joined_more _ _ _ (bytes_of before) (bytes_of after) (bytes_of added) field more c.loop-field.invariant.1
          (c.in_ok-references.ensures.found, c.in_ok-references.ensures.in_trie, c.in_ok-references.ensures.as_chosen)
          both,
    )

pub returns : goal.returns
returns g c =
    let searcher = c.args.self.now in
    let join = c.args.join in
    let fields = c.args.fields.now in
    let query = c.args.query.now in
    let keys = c.loop-field.found.keys in
    let items : c.in_ok-found.found.items ≡ keys = IfOk-at_ok (λ v. v.items ≡ keys) c.in_ok-found.was
    (items_from_collect c.collect.result c.collect.ensures.ran
    (YieldsList-from_rest keys c.into_iter.ensures.into_iter_gives.0)) in
    let joined = all_joined _ fields c.loop-field.field-index (bytes_of keys) c.loop-field-test.false
    c.loop-field.invariant.1 in
    let order = keys_sorted keys c.into_iter.ensures.into_iter_gives.4 in
    record {
      no_field = search rules;
      has_fields = subst (λ names. HasFieldsOf searcher (borrowed names))
          (take_all c.loop-field.field-index fields c.loop-field-test.false) c.loop-field.invariant.0;
      errors = search rules;
      found = λ language plan commands stands. let reads = LanguageReads (g.L.Language.tokens_of language)
          (g.L.Language.leaves_of language) in rw items
          (λ read. are_found _ plan.fields (λ i r. IsFoundFor reads join commands i query r)
          (λ name part finds. finds.0 language plan commands stands read) (borrowed fields) (bytes_of keys) joined
          order);
      in_tries = λ language speaks. let reads = LanguageReads (g.L.Language.tokens_of language)
          (g.L.Language.leaves_of language) in rw items
          (found_in_tries _ reads (fields_of searcher) searcher.printed.tries.items join query
          (λ name part finds. finds.1 language speaks) (borrowed fields) (bytes_of keys) joined order);
      as_chosen = λ language pipeline chosen. let reads = RunReads (g.L.Language.tokens_of language)
          (IsRunBy (λ b. (goal.PipelineFn-dyn g b).leaves b.1) pipeline) in rw items
          (found_in_tries _ reads (fields_of searcher) searcher.printed.tries.items join query
          (λ name part finds. finds.2 language pipeline chosen) (borrowed fields) (bytes_of keys) joined order);
    }
