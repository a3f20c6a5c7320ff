-- A page of the entries of its lines, and of one more.
use Rattle.std.proofs.Common.{◌≡◌, ◌∙◌, ℕ, ◌+◌, List, [], ◌++◌, take, sym, ap}
use Rattle.kr_defs.specs.Image.{Image, IsValid}
use Rattle.kr_pages.specs.declared.describe.Describe.{Describe}
use Rattle.kr_pages.specs.declared.describe.Described.{Described}
use Rattle.kr_pages.specs.declared.describe.DescribedTopic.{DescribedTopic}
use Rattle.kr_pages.specs.Lines.{names_of}
use Rattle.kr_pages.specs.Pages.{limit_of, page}
use Rattle.kr_describe.specs.inner.ShownLines.{cursor_or_first, described_of, names_entries}
use Rattle.kr_describe.proofs.NamedLines.{lines_from_first}
use Rattle.kr_describe.proofs.PutTogether.{page_of_entries}

pub page_made : (image : Image) → IsValid image → (d : Describe) (limit most : ℕ) → limit ≡ limit_of d.limit → most ≡ limit + 1 → (entries : List DescribedTopic)
    → entries ≡ take most ([] ++ names_entries image (cursor_or_first d.cursor) (names_of image d.names)) → (described : Described) → described ≡ described_of entries limit → described ≡ page image d
page_made image valid d limit most is more entries taken described made =
    page_of_entries image d entries described
    (taken ∙ (λ i. take ((more ∙ ap (λ (n : ℕ). n + 1) is) i) (sym (lines_from_first image valid d.names d.cursor) i)))
    (made ∙ ap (described_of entries) is)
