pub mod ReplacedPrefix
