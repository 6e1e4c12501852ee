-- Where RAM lies, and how large it can be (profile).
use Rattle.std.specs.Prelude.{ℕ, ◌+◌, ◌*◌}
use Rattle.base.specs.declared.ram.TheConstants.{BASE, PAGE_BYTES, MOST_PAGES, MOST_PAGES_VERSION_1}

-- the address of the first byte of RAM
abbrev pub ram_base : ℕ
ram_base = BASE

-- the bytes of a page
abbrev pub page_bytes : ℕ
page_bytes = PAGE_BYTES

-- the most pages that RAM has
abbrev pub most_pages : ℕ
most_pages = MOST_PAGES

-- the most pages that an image file of version 1 asks for
abbrev pub most_pages_version_1 : ℕ
most_pages_version_1 = MOST_PAGES_VERSION_1

-- the address past so many pages of RAM
abbrev pub ram_end : ℕ → ℕ
ram_end pages = ram_base + page_bytes * pages
