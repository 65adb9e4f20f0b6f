pub mod LinkedHashMap
