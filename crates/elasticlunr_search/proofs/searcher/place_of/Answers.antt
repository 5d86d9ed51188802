use Rattle.std.proofs.Common.{rules, ◌≡◌, ◌<◌, length, string_bytes, bytes_eq, Some, false, refl, sym, ap, ◌∙◌}
use Rattle.std.proofs.Common.{true≢false, arith}
use Rattle.std.specs.List.{slice_get}
use Rattle.std.proofs.lemmas.List.{length-map}
use borrow.Author.Count.{below_more}
use Rattle.elasticlunr_text.specs.Text.{bytes_of}
use Rattle.elasticlunr.specs.Fields.{has_name}
use Rattle.elasticlunr.proofs.Finding.{name_at, named, name_there, name_absent}
use Rattle.elasticlunr_search.proofs.searcher.place_of.Goals as goal

pub returns-then-eq-clause-found : goal.returns-then-eq-clause-found
returns-then-eq-clause-found c =
    let inside : c.loop-i.i < length c.args.names.now = search rules in
    let test = named (string_bytes c.index-names-i.result) c.args.name.now _ c.eq.result
    (name_at c.args.names.now c.loop-i.i c.index-names-i.result inside c.index-names-i.is)
    (c.eq.ensures ∙ ap (λ n. bytes_eq n c.args.name.now) c.as_str.ensures.value) in
    (inside, test.0 c.if-eq.true)

pub returns-then-eq-clause-is_found : goal.returns-then-eq-clause-is_found
returns-then-eq-clause-is_found c =
    let inside : c.loop-i.i < length c.args.names.now = search rules in
    let test = named (string_bytes c.index-names-i.result) c.args.name.now _ c.eq.result
    (name_at c.args.names.now c.loop-i.i c.index-names-i.result inside c.index-names-i.is)
    (c.eq.ensures ∙ ap (λ n. bytes_eq n c.args.name.now) c.as_str.ensures.value) in
    (λ _. name_there (bytes_of c.args.names.now) c.args.name.now c.loop-i.i (test.0 c.if-eq.true), λ _. refl)

pub loop-i-preserved : goal.loop-i-preserved
loop-i-preserved c =
    let inside : c.loop-i.i < length c.args.names.now = search rules in
    let test = named (string_bytes c.index-names-i.result) c.args.name.now _ c.eq.result
    (name_at c.args.names.now c.loop-i.i c.index-names-i.result inside c.index-names-i.is)
    (c.eq.ensures ∙ ap (λ n. bytes_eq n c.args.name.now) c.as_str.ensures.value) in
    below_more (λ k. ¬ (slice_get (bytes_of c.args.names.now) k ≡ Some c.args.name.now)) c.loop-i.i c.loop-i.invariant
    (λ is. absurd (true≢false (sym (test.1 is) ∙ c.if-eq.false)))

pub returns-clause-is_found : goal.returns-clause-is_found
returns-clause-is_found c =
    let none : has_name c.args.name.now (bytes_of c.args.names.now) ≡ false = name_absent (bytes_of c.args.names.now)
    c.args.name.now
    (λ k inside. c.loop-i.invariant k (omega (
      arith,
      inside,
      length-map c.args.names.now string_bytes,
      c.loop-i-test.false,
    ))) in
    (λ h. absurd (true≢false (sym h)), λ h. absurd (true≢false (sym h ∙ none)))
