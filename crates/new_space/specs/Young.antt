-- The places of new space, and what is used of them.
use Rattle.std.specs.Prelude.{ℕ, ◌≡◌, ◌≤◌, ◌+◌, ◌-◌, ◌^◌, ◌⊎◌, refl}
use Rattle.std.specs.Coded.{Coded, code_by, coded×, coded_ℕ}
use Rattle.new_space.specs.declared.space.Part.{Part}
use Rattle.new_space.specs.declared.space.Part.TheVariants.{Eden, Past}

-- where eden and the two survivor spaces begin and how many words they have; where past and future space do; and how many words of each are used
pub record Young : Type 0 where
  pub eden_at : ℕ
  pub eden_words : ℕ
  pub first_at : ℕ
  pub second_at : ℕ
  pub survivor_words : ℕ
  pub past_at : ℕ
  pub future_at : ℕ
  pub eden_used : ℕ
  pub past_used : ℕ
  pub future_used : ℕ

-- two runs of words share none
abbrev pub ShareNone : (a la b lb : ℕ) → Type 0
ShareNone a la b lb = (a + la ≤ b) ⊎ (b + lb ≤ a)

-- the runs end at most at 2^27, and no two of them share a word
pub record AreRuns (eden eden_words first second survivor_words : ℕ) : Type 0 where
  pub eden_ends : eden + eden_words ≤ 2 ^ 27
  pub first_ends : first + survivor_words ≤ 2 ^ 27
  pub second_ends : second + survivor_words ≤ 2 ^ 27
  pub eden_first : ShareNone eden eden_words first survivor_words
  pub eden_second : ShareNone eden eden_words second survivor_words
  pub first_second : ShareNone first survivor_words second survivor_words

-- one survivor space is past space and the other future space, and what is used of each space fits it
pub record Fits (y : Young) : Type 0 where
  pub runs : AreRuns y.eden_at y.eden_words y.first_at y.second_at y.survivor_words
  pub sides : ((y.past_at ≡ y.first_at) × (y.future_at ≡ y.second_at)) ⊎ ((y.past_at ≡ y.second_at) × (y.future_at ≡ y.first_at))
  pub eden : y.eden_used ≤ y.eden_words
  pub past : y.past_used ≤ y.survivor_words
  pub future : y.future_used ≤ y.survivor_words

-- nothing is used, and the first survivor space is past space
abbrev pub unused : (eden eden_words first second survivor_words : ℕ) → Young
unused eden eden_words first second survivor_words = record {
  eden_at = eden;
  eden_words = eden_words;
  first_at = first;
  second_at = second;
  survivor_words = survivor_words;
  past_at = first;
  future_at = second;
  eden_used = 0;
  past_used = 0;
  future_used = 0;
}

-- the words left in eden, and in future space
abbrev pub eden_left : Young → ℕ
eden_left y = y.eden_words - y.eden_used

abbrev pub future_left : Young → ℕ
future_left y = y.survivor_words - y.future_used

-- future space is past space, and eden and future space are empty
abbrev pub flipped : Young → Young
flipped y = record y { past_at = y.future_at; future_at = y.past_at; eden_used = 0; past_used = y.future_used; future_used = 0 }

-- how much of a part is used
abbrev pub used_of : Young → Part → ℕ
used_of y Eden = y.eden_used
used_of y Past = y.past_used

-- so much of a part is used
abbrev pub cut : Young → Part → ℕ → Young
cut y Eden used = record y { eden_used = used }
cut y Past used = record y { past_used = used }

-- the code of new space's value, as a tuple of its numbers
abbrev Ten : Type 0
Ten = ℕ × (ℕ × (ℕ × (ℕ × (ℕ × (ℕ × (ℕ × (ℕ × (ℕ × ℕ))))))))

abbrev pub young_code : Coded Young
young_code = code_by Ten
    (coded× coded_ℕ (coded× coded_ℕ (coded× coded_ℕ (coded× coded_ℕ (coded× coded_ℕ (coded× coded_ℕ (coded× coded_ℕ (coded× coded_ℕ (coded× coded_ℕ coded_ℕ)))))))))
    (λ y. (y.eden_at, (y.eden_words, (y.first_at, (y.second_at, (y.survivor_words, (y.past_at, (y.future_at, (y.eden_used, (y.past_used, y.future_used))))))))))
    (λ t. record {
      eden_at = t.0;
      eden_words = t.1.0;
      first_at = t.1.1.0;
      second_at = t.1.1.1.0;
      survivor_words = t.1.1.1.1.0;
      past_at = t.1.1.1.1.1.0;
      future_at = t.1.1.1.1.1.1.0;
      eden_used = t.1.1.1.1.1.1.1.0;
      past_used = t.1.1.1.1.1.1.1.1.0;
      future_used = t.1.1.1.1.1.1.1.1.1;
    })
    (λ _. refl)
