pub mod SettingLemmas
