-- What moves do.
use Rattle.std.proofs.Common.{◌≡◌, ℕ, ◌+◌, ◌-◌, ◌<◌, ltb, true, ◌⊎◌, ◌≢◌, ◌∙◌, arith}
use Rattle.std.proofs.lemmas.Bool.Decides.{nat_tests}
use Rattle.hoppers.specs.declared.levels.Levels.{Levels}
use Rattle.hoppers.specs.Levels.{level, put}
use Rattle.hoppers.specs.Moves.{poured, transferred, pourable, Others, Effects}
use Rattle.hoppers.proofs.Laws.{put_same, put_other, allowed_gives}

module _ (caps x : Levels) where
  abbrev Pours : ℕ → ℕ → Levels → Type 0
  Pours i j y = ((level y i ≡ 0) ⊎ (level y j ≡ level caps j)) × (level y i + level y j ≡ level x i + level x j) × Others x y i j

  pours : (i j : ℕ) → i < 8 → j < 8 → pourable caps x i j ≡ true → Pours i j (transferred caps x i j)
  pours i j hi hj t =
      let n : i ≢ j = λ e. grind (arith, nat_tests) in
      let l : level x j < level caps j = grind (arith, nat_tests) in
      let p : ℕ = poured caps x i j in
      let less : Levels = put x i (level x i - p) in
      let a : level (transferred caps x i j) i ≡ level x i - p = put_other less j (level x j + p) i n ∙ put_same x i (level x i - p) hi in
      let b : level (transferred caps x i j) j ≡ level x j + p = put_same less j (level x j + p) hj in
      (grind arith, omega arith, λ k u v. put_other less j (level x j + p) k v ∙ put_other x i (level x i - p) k u)

  pub effects : Effects caps x
  effects = record {
    fill = λ i y h e. allowed_gives (λ z. (level z i ≡ level caps i) × Others x z i i) (ltb (level x i) (level caps i)) _ y (λ _. (put_same x i (level caps i) h, λ k p _. put_other x i (level caps i) k p)) e;
    empty = λ i y h e. allowed_gives (λ z. (level z i ≡ 0) × Others x z i i) (ltb 0 (level x i)) _ y (λ _. (put_same x i 0 h, λ k p _. put_other x i 0 k p)) e;
    pour = λ i j y h g e. allowed_gives (Pours i j) (pourable caps x i j) _ y (pours i j h g) e;
  }
