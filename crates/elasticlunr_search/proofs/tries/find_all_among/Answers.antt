use Rattle.std.proofs.Common.{[], sym, ap, subst, ◌∙◌, arith, rules, refl, string_bytes}
use Rattle.std.proofs.lemmas.Fn.{filter_same}
use Rattle.std.proofs.lemmas.List.Kept.{IsStrictlySortedBy-filter}
use Rattle.std.specs.List.Sorted.{IsStrictlySortedBy}
use Rattle.std.specs.Str.{chars}
use Rattle.elasticlunr_text.specs.Text.{Bytes, bytes_of, text_of, text_cmp, texts_of, is_listed}
use Rattle.elasticlunr_search.specs.Tries.{HaveAllAmong, has_among, tables_of}
use Rattle.elasticlunr_search.proofs.Steps.{step_all, all_taken, no_strings, map-filter, kept_listed}
use Rattle.elasticlunr_search.proofs.Among.{have_all_among, have_none_among}
use Rattle.elasticlunr_search.proofs.tries.find_all_among.Goals as goal

pub loop-token-preserved : goal.loop-token-preserved
loop-token-preserved c =
    let tables = tables_of c.args.tries.now in
    let before = c.loop-token.found.items in
    let after = c.retain.new.self.items in
    let token = string_bytes c.token-item.result in
    let test = λ (bs : Bytes). has_among tables (chars token) bs in
    let same = filter_same _ (λ k. test (string_bytes k)) _ (λ x b f k. (search rules, search rules)) before after
    c.retain.ensures.filtered in
    let kept = ap bytes_of same ∙ map-filter string_bytes test (λ k. test (string_bytes k)) (λ k. refl) before in (
      subst (IsStrictlySortedBy text_cmp) (sym kept) (IsStrictlySortedBy-filter text_cmp test (bytes_of before)
          c.loop-token.invariant.0),
      λ r. step_all (λ t. has_among tables t r) c.in-Some.first.now c.in-Some.others.now c.args.tokens.now
          c.loop-token.token-index c.token-item.result token _ _ _
          c.in-Some.ensures.cases.0 (omega arith) c.token-item.is refl (ap (is_listed r) kept
          ∙ kept_listed test r (bytes_of before)) (c.loop-token.invariant.1 r) refl,
    )

pub returns-after-loop-token : goal.returns-after-loop-token
returns-after-loop-token c =
    let tables = tables_of c.args.tries.now in
    let first = c.in-Some.first.now in
    let others = c.in-Some.others.now in
    let are = c.in-Some.ensures.cases.0 in
    subst (λ ts. HaveAllAmong tables (texts_of ts) (bytes_of c.loop-token.found.items)) (sym are)
    (have_all_among tables (text_of first) (texts_of others) (bytes_of c.loop-token.found.items)
    c.loop-token.invariant.0
    (λ r. c.loop-token.invariant.1 r ∙ all_taken (λ t. has_among tables t r) first others c.args.tokens.now
    c.loop-token.token-index are (omega arith)))

pub returns-in-None : goal.returns-in-None
returns-in-None c =
    let tables = tables_of c.args.tries.now in
    let none = no_strings c.args.tokens.now c.in-None.ensures.cases in
    subst (λ ts. HaveAllAmong tables (texts_of ts) (bytes_of c.new.result.items)) (sym none)
    (subst (λ ks. HaveAllAmong tables (texts_of []) (bytes_of ks)) (sym c.new.ensures.items)
    (have_none_among tables))
