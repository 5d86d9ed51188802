use Rattle.std.proofs.Common.{◌≡◌, ◌∙◌, ◌+◌, ◌-◌, Bool, true, false, List, not, sym, ap, arith}
use Rattle.std.proofs.Common.{length, map, unwrap_or, codes}
use Rattle.std.specs.List.{find, range_with_len}
use Rattle.std.proofs.lemmas.List.{length-map}
use Rattle.elasticlunr.specs.Fields.{borrowed, has_name}
use Rattle.elasticlunr_text.specs.Text.{Bytes}
use Rattle.elasticlunr_input.specs.References.{numbered_name}
use Rattle.elasticlunr_input.proofs.FreeNames.{fails_more, first_of_all}
use Rattle.elasticlunr_input.proofs.Numbered.{one_is_free}
use Rattle.elasticlunr_input.proofs.references.free_name.Goals as goal

-- the name is no field
abbrev is_free : List Bytes → Bytes → Bool
is_free fields name = not (has_name name fields)

pub returns-then-not-has_name-clause-first : goal.returns-then-not-has_name-clause-first
returns-then-not-has_name-clause-first c =
    let fields = borrowed c.args.fields.now in
    let long : length fields ≡ length c.args.fields.now = length-map c.args.fields.now (λ s. s.now) in
    let named = c.as_str.ensures.value ∙ c.in_ok-name.ensures in
    let free : is_free fields (numbered_name c.loop-number.number) ≡ true =
    ap (λ n. is_free fields n) (sym named) ∙ ap not (sym c.has_name.ensures ∙ c.if-not-has_name.true) in
    c.in_ok-name.ensures
    ∙ sym (ap (λ found. unwrap_or found (codes "id")) (first_of_all (is_free fields) numbered_name
    c.loop-number.number (length fields + 1) c.loop-number.invariant.low (omega (arith, c.loop-number-test.true, long))
    c.loop-number.invariant.none free))

pub returns-then-not-has_name-clause-free : goal.returns-then-not-has_name-clause-free
returns-then-not-has_name-clause-free c =
    ap (λ n. has_name n (borrowed c.args.fields.now)) (sym c.as_str.ensures.value)
    ∙ sym c.has_name.ensures ∙ c.if-not-has_name.true

pub loop-number-preserved : goal.loop-number-preserved
loop-number-preserved c =
    let fields = borrowed c.args.fields.now in
    let named = c.as_str.ensures.value ∙ c.in_ok-name.ensures in
    let taken : is_free fields (numbered_name c.loop-number.number) ≡ false =
    ap (λ n. is_free fields n) (sym named) ∙ ap not (sym c.has_name.ensures ∙ c.if-not-has_name.false) in
    record {
      low = omega (arith, c.loop-number.invariant.low);
      high = omega (arith, c.loop-number-test.true);
      none = fails_more (is_free fields) numbered_name c.loop-number.number c.loop-number.invariant.low
          c.loop-number.invariant.none taken;
    }

pub returns-clause-free : goal.returns-clause-free
returns-clause-free c =
    let fields = borrowed c.args.fields.now in
    let long : length fields ≡ length c.args.fields.now = length-map c.args.fields.now (λ s. s.now) in
    let all : c.loop-number.number - 1 ≡ length fields + 1 = omega (
      arith,
      c.loop-number.invariant.high,
      c.loop-number-test.false,
      long,
    ) in
    absurd (one_is_free fields (omega (arith, c.loop-number.auto.number, c.loop-number-test.false, long)) (ap (λ n. find (is_free fields) (map numbered_name (range_with_len 1 n))) (sym all)
    ∙ c.loop-number.invariant.none))
