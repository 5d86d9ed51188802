use Rattle.std.proofs.Common.{◌≤◌, sym, subst, arith, chars, string_bytes, String, Global, lit<}
use Rattle.std.proofs.lemmas.Str.{IsUtf8-string_bytes}
use Rattle.elasticlunr_text.proofs.KeepLemmas.{width}
use Rattle.elasticlunr_text.proofs.StemLemmas.{width-chars, y-start, y-other, y-kept, IsStemOf, stem-short, stem-with_y}
use Rattle.elasticlunr_text.proofs.StemLemmas.{stem-without_y}
use Rattle.elasticlunr_text.proofs.OneStem.{one-Stem}
use Rattle.elasticlunr_text.proofs.lang.en.stemmer.Stemmer.stem.Goals as goal
use Rattle.elasticlunr_text.proofs.lang.en.stemmer.Stemmer.stem.Goals.{then-starts_with, else-starts_with}

pub returns-then-len-lt3-clause-stem : goal.returns-then-len-lt3-clause-stem
returns-then-len-lt3-clause-stem c =
    let w = c.args.w in
    stem-short (chars (string_bytes w)) (omega (arith, width-chars (string_bytes w) (IsUtf8-string_bytes w)))

pub set_first-requires-clause-first : goal.set_first-requires-clause-first
set_first-requires-clause-first c =
    let w = c.args.w in
    let y = y-start (string_bytes w) c.as_str.result.now c.starts_with.result c.as_str.ensures.value
    c.starts_with.ensures.cases c.if-starts_with.true (omega arith) in
    (121, y.0, lit< tt, y.1)

pub set_first-requires-then-starts_with-clause-first : goal.set_first-requires-then-starts_with-clause-first
set_first-requires-then-starts_with-clause-first c =
    let w = c.args.w in
    let y = y-start (string_bytes w) c.as_str.result.now c.starts_with.result c.as_str.ensures.value
    c.starts_with.ensures.cases c.if-starts_with.true (omega arith) in
    let k = y-kept _ _ _ y.0 y.1 c.set_first.ensures c.all.ensures in
    (89, k.0, lit< tt, k.1)

stemmed : (c : goal.Joined-starts_with) → IsStemOf (chars (string_bytes c.args.w))
    (chars (string_bytes c.if-starts_with.word))
stemmed c =
    let w = c.args.w in
    let W = chars (string_bytes w) in
    let long : 3 ≤ width W = omega (arith, width-chars (string_bytes w) (IsUtf8-string_bytes w)) in
    elim c.if-starts_with.branch [
      | then-starts_with v ↦
          let y = y-start (string_bytes w) c.as_str.result.now c.starts_with.result c.as_str.ensures.value
          c.starts_with.ensures.cases v.if-starts_with.true (omega arith) in
          subst (λ (t : String Global). IsStemOf W (chars (string_bytes t))) (sym v.word-is)
          (stem-with_y W _ _ _ y.0 long y.1 v.set_first.ensures v.all.ensures v.set_first-then-starts_with.ensures)
      | else-starts_with v ↦
          let other = y-other (string_bytes w) c.as_str.result.now c.starts_with.result c.as_str.ensures.value
          c.starts_with.ensures.cases v.if-starts_with.false (IsUtf8-string_bytes w) in
          subst (λ (t : String Global). IsStemOf W (chars (string_bytes t))) (sym v.word-is)
          (stem-without_y W _ long other v.all-else-starts_with.ensures)
    ]

pub returns-clause-stem : goal.returns-clause-stem
returns-clause-stem c = (stemmed c).stem

pub returns-clause-length : goal.returns-clause-length
returns-clause-length c =
    let w = c.args.w in
    let v = c.if-starts_with.word in
    omega (
      arith,
      (stemmed c).bound,
      width-chars (string_bytes w) (IsUtf8-string_bytes w),
      width-chars (string_bytes v)
          (IsUtf8-string_bytes v),
    )

pub returns-clause-first : goal.returns-clause-first
returns-clause-first c = (stemmed c).first

pub returns-then-len-lt3-clause-only : goal.returns-then-len-lt3-clause-only
returns-then-len-lt3-clause-only c u h =
    let w = c.args.w in
    let W = chars (string_bytes w) in
    one-Stem W u W h (stem-short W (omega (arith, width-chars (string_bytes w) (IsUtf8-string_bytes w))))

pub returns-clause-only : goal.returns-clause-only
returns-clause-only c u h = one-Stem (chars (string_bytes c.args.w)) u (chars (string_bytes c.if-starts_with.word)) h
    (stemmed c).stem
