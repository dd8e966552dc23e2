-- The content of a file: the list of its bytes (RFC 1813, sections 3.3.2, 3.3.6 and 3.3.7).
pub use Rattle.fs_rules.specs.Edits.{zeros}
unfoldable pub use Rattle.fs_rules.specs.Edits.{resized, written}
