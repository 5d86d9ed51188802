use Rattle.std.proofs.Common.{List, ℕ, string_bytes, sym, ap, ◌∙◌, subst, chars, arith}
use Rattle.std.specs.List.{list_any}
use Rattle.std.proofs.lemmas.Str.{IsUtf8-string_bytes}
use Rattle.elasticlunr_text.specs.Arabic.{is_diacritic}
use Rattle.elasticlunr_text.specs.FirstAt.{IsFirstAt}
use Rattle.elasticlunr_text.specs.Text.{text_of}
use Rattle.elasticlunr_text.proofs.FirstLemmas.{without_first-none}
use Rattle.elasticlunr_text.proofs.FirstAtLemmas.{IsFirstAt-boundary, IsFirstAt-within, chars-removed}
use Rattle.elasticlunr_text.proofs.lang.ar.remove_diacritic.Goals as goal

pub remove-requires-clause-boundary : goal.remove-requires-clause-boundary
remove-requires-clause-boundary c =
    let first = subst (λ (bs : List ℕ). IsFirstAt is_diacritic bs c.in-Some.place) c.as_str.ensures.value
    c.in-Some.ensures.found in
    IsFirstAt-boundary is_diacritic (string_bytes c.args.text.now) c.in-Some.place (IsUtf8-string_bytes c.args.text.now)
    first

pub remove-requires-clause-in_bounds : goal.remove-requires-clause-in_bounds
remove-requires-clause-in_bounds c =
    let first = subst (λ (bs : List ℕ). IsFirstAt is_diacritic bs c.in-Some.place) c.as_str.ensures.value
    c.in-Some.ensures.found in
    omega (
      arith,
      IsFirstAt-within is_diacritic (string_bytes c.args.text.now) c.in-Some.place
          (IsUtf8-string_bytes c.args.text.now) first,
      c.args.text.now.bytes.ok.0,
    )

pub returns-in-Some : goal.returns-in-Some
returns-in-Some c =
    let first = subst (λ (bs : List ℕ). IsFirstAt is_diacritic bs c.in-Some.place) c.as_str.ensures.value
    c.in-Some.ensures.found in
    let b = c.remove.ensures.bytes in
    chars-removed is_diacritic (string_bytes c.args.text.now) c.in-Some.place (IsUtf8-string_bytes c.args.text.now)
    first c.remove.result b.0 (string_bytes c.remove.new.self) b.1 b.2

pub returns-in_default : goal.returns-in_default
returns-in_default c =
    sym (without_first-none is_diacritic (text_of c.args.text.now)
    (ap (λ bs. list_any is_diacritic (chars bs)) (sym c.as_str.ensures.value) ∙ c.in_default.ensures.none))
