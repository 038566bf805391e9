-- What an engine stores for one row.
use Rattle.std.specs.Prelude.{◌≡◌, ◌≤◌, ℕ, ◌+◌, Option, None, is_some, unwrap_or, List, length, count_by}
use Rattle.std.specs.Coded.{Coded, coded×, coded_list, coded_ℕ, coded_option, code_by}
use Rattle.std.proofs.Common.{refl}
use Rattle.lab_table.specs.Sessions.{of_session}
use Rattle.lab_engine.specs.declared.version.Version.{Version}
use Rattle.lab_engine.specs.declared.row_state.Installed.{Installed}

-- the installed versions, the newest first; for each session, by rising number, the version that it has pending; and for how many versions there is room
pub record Kept : Type 0 where
  pub chain : List Installed
  pub pending : List (Option Version)
  pub places : ℕ

-- it is stored as its parts, given codes of versions and of installed ones
abbrev pub coded_kept : Coded Version → Coded Installed → Coded Kept
coded_kept version installed = code_by (List Installed × (List (Option Version) × ℕ)) (coded× (coded_list installed) (coded× (coded_list (coded_option version)) coded_ℕ))
    (λ k. (k.chain, (k.pending, k.places))) (λ p. record { chain = p.0; pending = p.1.0; places = p.1.1 }) (λ _. refl)

-- the version that a session has pending
abbrev pub pending_of : Kept → ℕ → Option Version
pending_of kept session = unwrap_or (of_session kept.pending session) None

-- how many of some versions there are
abbrev pub count : List (Option Version) → ℕ
count versions = count_by is_some versions

-- there is room for so many installed versions and each pending one
pub record IsRoomy (installed : ℕ) (pending : List (Option Version)) (places : ℕ) : Type 0 where
  pub nine : length pending ≡ 9
  pub room : installed + count pending ≤ places

-- there is room for one more version of each session
abbrev pub IsReady : Kept → Type 0
IsReady kept = length kept.chain + 9 ≤ kept.places
