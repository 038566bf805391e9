-- What files tell of a run, one after another.
use Rattle.std.{proofs.{Common.{◌≡◌, ◌<◌, ◌+◌, ℕ, refl, sym, ap, ◌∙◌, List, [], ◌∷◌, ◌++◌, length, map, take, get_or, Bor, Option}, lemmas.List.{map-append, append-nil, take_more, Concat.{flat_map-append}, Elements.{All-nil, All-cons, All-append}}}, specs.{Prelude.{fold, max}, List.{All}}}
use Rattle.lab_chain.specs.declared.summary.Summary.{Summary}
use Rattle.lab_chain_commands.specs.{JoinAnswers.{Named, IsNamed, IsPiece, with_piece, joined_pieces, refusal_text, refusals_text, piece_status, pieces_status}, declared.piece.Piece.{Piece}}
use Rattle.lab_streams.specs.declared.reporting.Format.{Format}

fold_last : {A B : Type 0} (f : B → A → B) (b : B) (xs : List A) (x : A) → fold f b (xs ++ x ∷ []) ≡ f (fold f b xs) x
fold_last f b [] x = refl
fold_last f b (y ∷ xs) x = fold_last f (f b y) xs x

-- the files of these names tell this of a run
abbrev pub AreRead : Format → List (List ℕ) → Summary → List ℕ → ℕ → Type 0
AreRead format names summary refusals status =
    (pieces : List Named) × (map (λ p. p.name) pieces ≡ names) × All IsNamed pieces × (summary ≡ joined_pieces pieces) × (refusals ≡ refusals_text format pieces) × (status ≡ pieces_status pieces)

module _ (format : Format) (names : List (List ℕ)) (name : List ℕ) (piece : Piece) (summary next : Summary) (refusals more : List ℕ) (status : ℕ) where
  one_read : AreRead format names summary refusals status → ((input : Option (List ℕ)) × IsPiece input piece) → next ≡ with_piece summary piece
      → more ≡ refusals ++ refusal_text format name piece → AreRead format (names ++ name ∷ []) next more (max status (piece_status piece))
  one_read so_far is joined told =
      let pieces : List Named = so_far.0 in
      let p : Named = record { name = name; piece = piece } in (
        pieces ++ p ∷ [],
        map-append (λ (q : Named). q.name) pieces (p ∷ []) ∙ ap (λ ns. ns ++ name ∷ []) so_far.1,
        All-append IsNamed pieces (p ∷ []) so_far.2 (All-cons IsNamed p [] is (All-nil IsNamed)),
        joined ∙ ap (λ s. with_piece s piece) so_far.3 ∙ sym (fold_last (λ s (q : Named). with_piece s q.piece) _ pieces p),
        told ∙ ap (λ t. t ++ refusal_text format name piece) so_far.4 ∙ ap (λ t. refusals_text format pieces ++ t) (sym (append-nil (refusal_text format name piece)))
            ∙ sym (flat_map-append (λ (q : Named). refusal_text format q.name q.piece) pieces (p ∷ [])),
        ap (λ n. max n (piece_status piece)) so_far.5 ∙ sym (fold_last (λ s (q : Named). max s (piece_status q.piece)) 0 pieces p),
      )

module _ (format : Format) (names : List (Bor (List ℕ))) (i : ℕ) (d : Bor (List ℕ)) (few : i < length names) where
  up_to : map (λ (n : Bor (List ℕ)). n.now) (take i names) ++ (get_or names i d).now ∷ [] ≡ map (λ (n : Bor (List ℕ)). n.now) (take (i + 1) names)
  up_to = sym (map-append (λ (n : Bor (List ℕ)). n.now) (take i names) (get_or names i d ∷ [])) ∙ ap (map (λ (n : Bor (List ℕ)). n.now)) (sym (take_more names i d few))

  -- one file more
  pub next_read : (piece : Piece) (summary next : Summary) (refusals more : List ℕ) (status : ℕ) → AreRead format (map (λ (n : Bor (List ℕ)). n.now) (take i names)) summary refusals status
      → ((input : Option (List ℕ)) × IsPiece input piece) → next ≡ with_piece summary piece → more ≡ refusals ++ refusal_text format (get_or names i d).now piece
      → AreRead format (map (λ (n : Bor (List ℕ)). n.now) (take (i + 1) names)) next more (max status (piece_status piece))
  next_read piece summary next refusals more status so_far is joined told =
      rw up_to at (one_read format (map (λ (n : Bor (List ℕ)). n.now) (take i names)) (get_or names i d).now piece summary next refusals more status so_far is joined told)
